use Rattle.std.proofs.Common.{◌≡◌, ◌+◌, length}
use Rattle.lake_format.specs.Cutting.{ranges}
use Rattle.plain_reference.proofs.segments.range_count.Given as goal

-- the ranges before the rest are counted
abbrev pub invariant-loop-rest : goal.invariant-loop-rest
invariant-loop-rest l = l.count + length (ranges l.cut l.rest) ≡ length (ranges l.cut l.fn.rows)

abbrev pub decreases-loop-rest : goal.decreases-loop-rest
decreases-loop-rest l = length l.rest
