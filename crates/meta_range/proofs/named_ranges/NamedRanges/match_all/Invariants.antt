use Rattle.std.proofs.Common.{◌≡◌, drop}
use Rattle.std.specs.List.{list_all}
use Rattle.meta_range.specs.RangeNames.{is_matched}
use Rattle.meta_range.proofs.named_ranges.NamedRanges.match_all.Given as goal

-- whether all match is told by the ranges to come
abbrev pub invariant-loop-range : goal.invariant-loop-range
invariant-loop-range l = list_all (is_matched l.self) l.range-items ≡ list_all (is_matched l.self) (drop l.range-index l.range-items)
