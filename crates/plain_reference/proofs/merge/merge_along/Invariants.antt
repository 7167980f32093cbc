use Rattle.std.proofs.Common.{take}
use Rattle.plain_reference.proofs.MergeLemmas.{Merges}
use Rattle.plain_reference.proofs.merge.merge_along.Given as goal

-- at the paths so far, the changes say the merged values
abbrev pub invariant-loop-path : goal.invariant-loop-path
invariant-loop-path l = Merges l.strategy l.base l.source l.dest l.changes (take l.path-index l.path-items)
