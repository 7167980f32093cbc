use Rattle.lake_values.specs.Cursor.{entries_from}
use Rattle.branch_record.proofs.JoinedLemmas.{IsDone}
use Rattle.branch_record.proofs.joined.seek_each.Given as goal

-- it is done in the layers so far, and the others are as they were
abbrev pub invariant-loop-layer : goal.invariant-loop-layer
invariant-loop-layer l = IsDone (entries_from l.least) l.initial.layers l.layers l.layer-index
