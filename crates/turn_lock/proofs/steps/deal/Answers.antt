use Rattle.std.proofs.Common.{rules, arith, ◌+◌, ◌<◌}
use Rattle.turn_lock.proofs.SeatStepsLemmas.{splits_dealer}
use Rattle.turn_lock.proofs.steps.deal.Goals as goal

pub split_seat-next-requires : goal.split_seat-next-requires
split_seat-next-requires g c =
    let more : c.loop-number.number + 1 < c.args.seats = omega arith in (
      search rules,
      search rules,
      splits_dealer g.S.Standing.origin g.S.Standing.list g.S.Standing.seat_of _ c.args.about.now.value.value c.args.seats
          c.loop-number.number c.loop-number.place.me c.loop-number.invariant.1 more,
    )
