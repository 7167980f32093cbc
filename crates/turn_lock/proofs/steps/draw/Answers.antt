use Rattle.std.proofs.Common.{rules}
use Rattle.turn_lock.proofs.SeatStepsLemmas.{draws_as}
use Rattle.turn_lock.proofs.steps.draw.Goals as goal

pub compare_exchange-found-requires : goal.compare_exchange-found-requires
compare_exchange-found-requires g c = (
  search rules,
  search rules,
  draws_as g.S.Standing.origin g.S.Standing.list g.S.Standing.seat_of _ _ c.loop.expected c.args.place.now.me c.loop.place.me
      c.loop.invariant.1 c.requires.1.0 c.requires.1.1 c.loop.invariant.2,
)
