use Rattle.std.proofs.Common.{take}
use Rattle.meta_range.specs.RangeNames.{TellsFirst, range_name}
use Rattle.meta_range.proofs.named_ranges.places_of.Given as goal

-- the table tells of the ranges so far
abbrev pub invariant-loop-at : goal.invariant-loop-at
invariant-loop-at l = TellsFirst range_name l.places.entries (take l.at l.ranges)
