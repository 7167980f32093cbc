use Rattle.std.proofs.Common.{◌≡◌, [], take}
use Rattle.plain_reference.proofs.MergeLemmas.{conflicting}
use Rattle.plain_reference.proofs.merge.has_conflict.Given as goal

-- none of the paths so far conflicts
abbrev pub invariant-loop-path : goal.invariant-loop-path
invariant-loop-path l = [] ≡ conflicting l.base l.source l.dest (take l.path-index l.path-items)
