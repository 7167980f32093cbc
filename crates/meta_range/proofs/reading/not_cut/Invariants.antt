use Rattle.std.proofs.Common.{◌≡◌, drop}
use Rattle.lake_format.specs.Cutting.{ranges}
use Rattle.meta_range.specs.Ranges.{rows_of}
use Rattle.meta_range.specs.TreeReading.{first_stray, not_cut}
use Rattle.meta_range.proofs.reading.not_cut.Given as goal

-- the first that is astray among the rest is the first of all
abbrev pub invariant-loop-at : goal.invariant-loop-at
invariant-loop-at l = first_stray l.at (drop l.at l.ranges) (ranges l.cut (rows_of (drop l.at l.ranges))) ≡ not_cut l.cut l.ranges
