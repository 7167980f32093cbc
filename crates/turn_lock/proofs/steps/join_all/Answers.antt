use Rattle.std.proofs.Common.{rules, ap, sym, ◌∙◌, ◌++◌, ◌≡◌, true≢false, All, subst, arith}
use Rattle.std.proofs.lemmas.List.Elements.{All-pop}
use Rattle.turn_lock.specs.Rule.{IsJoined, kin_of}
use Rattle.turn_lock.proofs.SeatsLemmas.{prefix_trans}
use Rattle.turn_lock.proofs.TurnLemmas.{holding_after, work_after, was_joined, joined_more, none_left}
use Rattle.turn_lock.proofs.steps.join_all.Goals as goal

pub loop-other-preserved : goal.loop-other-preserved
loop-other-preserved g c =
    let inv = c.loop-other.invariant in
    let here = c.join.ensures in
    let done = inv.6 in (
      search rules,
      holding_after c.loop-other.place.me c.join.new.place.me c.into_seat.result.me.0 here.same.1 inv.1,
      work_after c.args.place.now.me.0 c.loop-other.place.me c.join.new.place.me c.into_seat.result.me.0 here.same.1 inv.2,
      (All-pop (λ s. s.turn ≡ c.args.top.now.table_id) c.loop-other.seats.items c.pop.new.self.items c.pop.result c.pop.ensures.items inv.3).0,
      prefix_trans c.args.place.now.me.0.seen c.loop-other.place.me.0.seen c.join.new.place.me.0.seen inv.4 here.begins.0,
      (λ h. absurd (true≢false (sym h ∙ (sym (ap (λ v. v.alone) (inv.5 h)) ∙ here.beside.1)))),
      joined_more c.loop-other.place.me.0.kin c.into_seat.result.me.0.kin c.join.new.place.me.0.kin (kin_of c.into_seat.result.me.0) c.loop-other.seats.items
          c.pop.new.self.items done.0 c.args.seats.items c.in-Some.other done.1 c.in-Some.ensures.items (ap (λ m. m.0.kin) here.same.1) done.2
          (was_joined c.into_seat.result.me.0 c.in-Some.other c.other.inside.badge.table_id c.other.inside.badge.views c.join.new.place.me.0.kin _
          c.other.view_is c.into_seat.ensures.2 here.beside.2 (ap (λ m. m.0.kin) here.same.1)),
    )

pub returns-clause-joined : goal.returns-clause-joined
returns-clause-joined g c =
    let inv = c.loop-other.invariant in
    let done = inv.6 in
    let empty = none_left c.loop-other.seats.items (λ some. (let n = c.in_default.ensures.cases.0 in let ok = c.loop-other.seats.ok in omega arith)) in
    subst (All (IsJoined c.loop-other.place.me.0.kin)) (sym (done.1 ∙ ap (λ l. l ++ done.0) empty)) done.2
