use Rattle.std.proofs.Common.{◌≡◌, take}
use Rattle.plain_reference.proofs.MergeLemmas.{conflicting}
use Rattle.plain_reference.proofs.merge.conflicts.Given as goal

-- the conflicting paths so far
abbrev pub invariant-loop-path : goal.invariant-loop-path
invariant-loop-path l = l.paths.items ≡ conflicting l.base l.source l.dest (take l.path-index l.path-items)
