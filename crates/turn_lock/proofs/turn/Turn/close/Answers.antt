use Rattle.std.proofs.Common.{refl, ap, sym, ◌∙◌, ◌≡◌, subst, get_or}
use Rattle.std.specs.Prelude.{IsSome}
use mathlib.Core.Option.{some-injective}
use Rattle.turn_lock.specs.Seats.{Meets}
use Rattle.turn_lock.proofs.SeatStepsLemmas.{closes}
use Rattle.turn_lock.proofs.TurnLemmas.{all_given, meets_first, meets_others}
use Rattle.turn_lock.proofs.turn.Turn.close.Goals as goal

pub unwrap-value-requires : goal.unwrap-value-requires
unwrap-value-requires g c =
    let end = closes g.S.Standing.origin g.S.Standing.list g.S.Standing.seat_of c.join_all.new.place.id c.join_all.new.place.me.0 _ _
    c.join_all.ensures.same.1.0 c.join_all.ensures.same.1.1 c.close_with-closed.ensures.values.2 in
    let value_is = some-injective _ _ (sym c.take-value.ensures.value ∙ end.1) in
    subst IsSome (sym value_is) refl

pub returns-clause-meets : goal.returns-clause-meets
returns-clause-meets g c =
    let end = closes g.S.Standing.origin g.S.Standing.list g.S.Standing.seat_of c.join_all.new.place.id c.join_all.new.place.me.0 _ _
    c.join_all.ensures.same.1.0 c.join_all.ensures.same.1.1 c.close_with-closed.ensures.values.2 in
    let value_is = some-injective _ _ (sym c.take-value.ensures.value ∙ end.1) in
    let same : end.0 ≡ c.unwrap-value.result = cc (value_is, c.unwrap-value.ensures) in
    let took = ap (λ m. m.0) c.take_turn.ensures.taken.1 in
    let work = c.join_all.ensures.same.2 in
    let first = meets_first g.S.Standing.origin g.S.Standing.list g.S.Standing.seat_of c.remove.result c.badge.inside.badge.table_id c.badge.inside.badge.views
    c.into_seat-place.result.me.0 c.take_turn.new.place.me.0 c.join_all.new.place.me.0 end.0 c.badge.view_is c.into_seat-place.ensures.2 took
    c.take_turn.ensures.own work c.join_all.ensures.begins c.join_all.ensures.alone end.2 in
    let others = meets_others g.S.Standing.origin g.S.Standing.list g.S.Standing.seat_of c.remove.new.self.items c.join_all.new.place.me.0 end.0
    c.join_all.ensures.joined end.3 in
    all_given (λ s. Meets g.S.Standing.origin g.S.Standing.list g.S.Standing.seat_of s c.unwrap-value.result) c.args.seats.items c.remove.result
    c.remove.new.self.items c.requires.some c.remove.ensures.value c.remove.ensures.items
    (subst (Meets g.S.Standing.origin g.S.Standing.list g.S.Standing.seat_of c.remove.result) same first)
    (λ k d l. subst (Meets g.S.Standing.origin g.S.Standing.list g.S.Standing.seat_of (get_or c.remove.new.self.items k d)) same (others k d l))
