use Rattle.std.proofs.Common.{◌≡◌, true, take}
use Rattle.plain_reference.proofs.SegmentRunLemmas.{unbroken}
use Rattle.plain_reference.proofs.segments.first_segment.Given as goal

-- no break key so far
abbrev pub invariant-loop-at : goal.invariant-loop-at
invariant-loop-at l = unbroken l.cut (take l.at l.rows) ≡ true
