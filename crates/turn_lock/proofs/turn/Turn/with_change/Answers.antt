use Rattle.std.proofs.Common.{rules, refl, ap, sym, ◌∙◌, ◌++◌, Some}
use Rattle.turn_lock.specs.Seats.{by_seat, seat_after}
use Rattle.turn_lock.proofs.TurnLemmas.{seat_meets, seat_changed, adds_mine, takes_at, gives_at, shows_number, same_number, change_own}
use Rattle.turn_lock.proofs.turn.Turn.with_change.Goals as goal

pub f-answer-requires : goal.f-answer-requires
f-answer-requires g c =
    let only = sym (ap (λ b. b.views) c.replace.ensures.value) ∙ c.into_seat-place.ensures.2 in
    let took = ap (λ m. m.0) c.take_turn.ensures.taken.1 in
    let meets = seat_meets g.S.Standing.origin g.S.Standing.list g.S.Standing.seat_of c.args.seat.now c.seat.inside.badge.table_id c.seat.inside.badge.views
    c.into_seat-place.result.me.0 _ _ c.seat.view_is only took c.take_out-value.ensures.1 in
    let number = shows_number c.args.seat.now c.seat.inside.badge.table_id c.seat.inside.badge.views c.seat.invariant.0 c.seat.inside.number c.seat.view_is
    c.seat.invariant.1 c.seat.invariant.3 in
    takes_at g.F.FnOnce c.args.f c.take_out-value.result c.args.seat.now.number c.seat.inside.number number
    (c.requires.callable c.take_out-value.result meets c.entries-found.ensures.stands) _ refl

pub store_length-requires-clause-grown : goal.store_length-requires-clause-grown
store_length-requires-clause-grown g c =
    let only = sym (ap (λ b. b.views) c.replace.ensures.value) ∙ c.into_seat-place.ensures.2 in
    let took = ap (λ m. m.0) c.take_turn.ensures.taken.1 in
    let meets = seat_meets g.S.Standing.origin g.S.Standing.list g.S.Standing.seat_of c.args.seat.now c.seat.inside.badge.table_id c.seat.inside.badge.views
    c.into_seat-place.result.me.0 _ _ c.seat.view_is only took c.take_out-value.ensures.1 in
    let number = shows_number c.args.seat.now c.seat.inside.badge.table_id c.seat.inside.badge.views c.seat.invariant.0 c.seat.inside.number c.seat.view_is
    c.seat.invariant.1 c.seat.invariant.3 in
    let gives = gives_at g.F.FnOnce c.args.f c.take_out-value.result c.seat.inside.number c.args.seat.now.number c.f-answer.result c.f-answer.new.arg2
    (sym number) record { shown = _; shows = refl; left = _; met = c.f-answer.ensures; leaves = refl } in
    let adds = c.requires.only_adds c.take_out-value.result c.f-answer.new.arg2 c.f-answer.result meets c.entries-found.ensures.stands gives
    c.entries-left.ensures.stands in
    let out = ap (λ m. m.0) c.take_out-value.ensures.2 in
    let same =
    same_number c.args.seat.now c.seat.inside.badge.table_id c.seat.inside.badge.views c.into_seat-place.result.me.0 _ _ _ c.seat.view_is only took out in
    (adds.0, adds.1.1 ∙ sym (ap (λ m. m.0.seen ++ adds.0) c.take_out-value.ensures.2), λ k d l. adds.1.2 k d l ∙ sym same)

pub give_back-requires-clause-value : goal.give_back-requires-clause-value
give_back-requires-clause-value g c =
    let only = sym (ap (λ b. b.views) c.replace.ensures.value) ∙ c.into_seat-place.ensures.2 in
    let took = ap (λ m. m.0) c.take_turn.ensures.taken.1 in
    let meets = seat_meets g.S.Standing.origin g.S.Standing.list g.S.Standing.seat_of c.args.seat.now c.seat.inside.badge.table_id c.seat.inside.badge.views
    c.into_seat-place.result.me.0 _ _ c.seat.view_is only took c.take_out-value.ensures.1 in
    let number = shows_number c.args.seat.now c.seat.inside.badge.table_id c.seat.inside.badge.views c.seat.invariant.0 c.seat.inside.number c.seat.view_is
    c.seat.invariant.1 c.seat.invariant.3 in
    let gives = gives_at g.F.FnOnce c.args.f c.take_out-value.result c.seat.inside.number c.args.seat.now.number c.f-answer.result c.f-answer.new.arg2
    (sym number) record { shown = _; shows = refl; left = _; met = c.f-answer.ensures; leaves = refl } in
    let adds = c.requires.only_adds c.take_out-value.result c.f-answer.new.arg2 c.f-answer.result meets c.entries-found.ensures.stands gives
    c.entries-left.ensures.stands in (
      ap (λ m. m.0.origin) c.store_length.ensures.1
          ∙ (ap (λ m. m.0.origin) c.take_out-value.ensures.2 ∙ (c.take_out-value.ensures.1.same_origin ∙ ap Some (sym adds.1.0))),
      sym (ap (λ m. m.0.seen) c.store_length.ensures.1),
    )

pub returns-clause-change : goal.returns-clause-change
returns-clause-change g c =
    let only = sym (ap (λ b. b.views) c.replace.ensures.value) ∙ c.into_seat-place.ensures.2 in
    let took = ap (λ m. m.0) c.take_turn.ensures.taken.1 in
    let meets = seat_meets g.S.Standing.origin g.S.Standing.list g.S.Standing.seat_of c.args.seat.now c.seat.inside.badge.table_id c.seat.inside.badge.views
    c.into_seat-place.result.me.0 _ _ c.seat.view_is only took c.take_out-value.ensures.1 in
    let number = shows_number c.args.seat.now c.seat.inside.badge.table_id c.seat.inside.badge.views c.seat.invariant.0 c.seat.inside.number c.seat.view_is
    c.seat.invariant.1 c.seat.invariant.3 in
    let gives = gives_at g.F.FnOnce c.args.f c.take_out-value.result c.seat.inside.number c.args.seat.now.number c.f-answer.result c.f-answer.new.arg2
    (sym number) record { shown = _; shows = refl; left = _; met = c.f-answer.ensures; leaves = refl } in
    let adds = c.requires.only_adds c.take_out-value.result c.f-answer.new.arg2 c.f-answer.result meets c.entries-found.ensures.stands gives
    c.entries-left.ensures.stands in
    let out = ap (λ m. m.0) c.take_out-value.ensures.2 in
    let same =
    same_number c.args.seat.now c.seat.inside.badge.table_id c.seat.inside.badge.views c.into_seat-place.result.me.0 _ _ _ c.seat.view_is only took out in (
      c.take_out-value.result,
      c.f-answer.new.arg2,
      adds.0,
      meets,
      gives,
      adds.1,
      seat_changed c.args.seat.now c.seat.inside.badge.table_id _ c.seat.inside.badge.views _ c.into_seat-place.result.me.0 _ _
          _ _ _ (g.S.Standing.list c.f-answer.new.arg2) _ c.seat.view_is only took out (ap (λ m. m.0) c.store_length.ensures.1)
          (ap (λ m. m.0) c.give_back.ensures.1) c.into_badge.ensures.2 (search rules)
          ∙ ap (seat_after c.args.seat.now (g.S.Standing.list c.f-answer.new.arg2))
          (ap (λ n. by_seat g.S.Standing.seat_of n (g.S.Standing.list c.f-answer.new.arg2)) same ∙ adds_mine g.S.Standing.origin g.S.Standing.list
          g.S.Standing.seat_of c.args.seat.now.number c.take_out-value.result adds.0 c.args.seat.now.mine c.f-answer.new.arg2 meets.own adds.1),
      c.entries-found.ensures.stands,
      c.entries-left.ensures.stands,
    )

pub returns-clause-own : goal.returns-clause-own
returns-clause-own g c =
    let r = returns-clause-change g c in
    change_own g.S.Standing.origin g.S.Standing.list g.S.Standing.seat_of _ _ r.0 r.2 r.1 r.3 r.5 r.6
