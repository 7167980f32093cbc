use Rattle.branch_record.specs.Layers.{rows_above}
use Rattle.branch_record.proofs.JoinedLemmas.{IsDone}
use Rattle.branch_record.proofs.joined.pass_each.Given as goal

-- it is done in the layers so far, and the others are as they were
abbrev pub invariant-loop-layer : goal.invariant-loop-layer
invariant-loop-layer l = IsDone (rows_above l.path) l.initial.layers l.layers l.layer-index
