use Rattle.std.proofs.Common.{rules, ap, sym, ◌∙◌}
use Rattle.turn_lock.proofs.TurnLemmas.{seat_meets, seat_read, read_own}
use Rattle.turn_lock.proofs.turn.Turn.with_read.Goals as goal

pub returns-clause-read : goal.returns-clause-read
returns-clause-read g c =
    let only = sym (ap (λ b. b.views) c.replace.ensures.value) ∙ c.into_seat-place.ensures.2 in
    let took = ap (λ m. m.0) c.take_turn.ensures.taken.1 in (
      c.take_out-value.result,
      seat_meets g.S.Standing.origin g.S.Standing.list g.S.Standing.seat_of c.args.seat.now c.seat.inside.badge.table_id c.seat.inside.badge.views
          c.into_seat-place.result.me.0 _ _ c.seat.view_is only took c.take_out-value.ensures.1,
      search rules,
      seat_read c.args.seat.now c.seat.inside.badge.table_id _ c.seat.inside.badge.views _ c.into_seat-place.result.me.0 _ _ _ _ c.seat.view_is only took
          (ap (λ m. m.0) c.take_out-value.ensures.2) (ap (λ m. m.0) c.give_back.ensures.1) c.into_badge.ensures.2 (search rules),
      c.entries-seen.ensures.stands,
    )

pub returns-clause-own : goal.returns-clause-own
returns-clause-own g c =
    let r = returns-clause-read g c in
    read_own g.S.Standing.origin g.S.Standing.list g.S.Standing.seat_of _ _ r.0 r.1 r.3
