use Rattle.std.proofs.Common.{take}
use Rattle.branch_record.proofs.JoinedLemmas.{IsFirstOf}
use Rattle.branch_record.proofs.joined.first_of.Given as goal

-- it is the first of those so far
abbrev pub invariant-loop-layer : goal.invariant-loop-layer
invariant-loop-layer l = IsFirstOf (take l.layer-index l.layers) l.first
