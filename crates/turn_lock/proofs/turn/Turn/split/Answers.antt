use Rattle.std.proofs.Common.{rules, ap}
use Rattle.turn_lock.proofs.SeatStepsLemmas.{splits_as}
use Rattle.turn_lock.proofs.turn.Turn.split.Goals as goal

pub split_seat-requires : goal.split_seat-requires
split_seat-requires g c =
    let e = c.in-Some.ensures.drawn in (
      search rules,
      search rules,
      splits_as g.S.Standing.origin g.S.Standing.list g.S.Standing.seat_of c.draw-drawn.new.place.id c.in-Some.number
          c.into_seat-place.result.me.0 c.draw-drawn.new.place.me.0 (ap (λ m. m.0) e.0) (search rules) (search rules),
    )
