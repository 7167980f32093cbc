use Rattle.std.proofs.Common.{◌<◌}
use Rattle.turn_lock.specs.Rule.{IsSameSeat, IsAfterTry}
use Rattle.turn_lock.proofs.steps.draw.Given as goal

abbrev pub invariant-loop : goal.invariant-loop
invariant-loop g l = IsSameSeat l.initial.place l.place × IsAfterTry l.initial.place.me l.place.me × (l.expected < 4294967295)
