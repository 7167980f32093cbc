use Rattle.std.proofs.Common.{◌≡◌}
use Rattle.turn_lock.specs.Rule.{IsSameSeat}
use Rattle.turn_lock.proofs.steps.take_turn.Given as goal

abbrev pub invariant-loop : goal.invariant-loop
invariant-loop g l = IsSameSeat l.initial.place l.place × (l.place.me ≡ l.initial.place.me)
