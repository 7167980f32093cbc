use Rattle.std.proofs.Common.{◌≡◌}
use Rattle.memory_machine.proofs.folders.put_all.Given as goal

-- nothing was counted
abbrev pub invariant-loop-number : goal.invariant-loop-number
invariant-loop-number l = (l.into.faults ≡ l.initial.into.faults) × (l.into.misses ≡ l.initial.into.misses)
