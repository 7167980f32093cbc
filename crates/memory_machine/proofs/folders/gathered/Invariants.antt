use Rattle.std.proofs.Common.{◌≡◌}
use Rattle.memory_machine.proofs.folders.gathered.Given as goal

-- nothing was counted
abbrev pub invariant-loop-store : goal.invariant-loop-store
invariant-loop-store l = (l.all.faults ≡ 0) × (l.all.misses ≡ 0)
