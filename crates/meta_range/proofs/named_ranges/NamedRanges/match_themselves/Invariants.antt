use Rattle.std.proofs.Common.{◌≡◌, drop}
use Rattle.std.specs.List.{list_all}
use Rattle.meta_range.specs.RangeNames.{is_matched}
use Rattle.meta_range.proofs.named_ranges.NamedRanges.match_themselves.Given as goal

-- whether all match is told by the ranges to come
abbrev pub invariant-loop-at : goal.invariant-loop-at
invariant-loop-at l = list_all (is_matched l.self) l.range-items ≡ list_all (is_matched l.self) (drop l.at l.range-items)
