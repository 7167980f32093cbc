use Rattle.std.proofs.Common.{◌≡◌, [], drop, take}
use Rattle.meta_range.specs.TreeReading.{read_ranges, AreRead, AreShelved}
use Rattle.meta_range.proofs.reading.read_ranges.Given as goal

-- the ranges so far, and those still read behind them, are all; what is said of them is said of those so far
abbrev pub invariant-loop-line : goal.invariant-loop-line
invariant-loop-line l = record {
  reads : read_ranges l.given l.ranges.items (drop l.line-index l.lines) ≡ read_ranges l.given [] l.lines;
  found : AreRead l.given (take l.line-index l.lines) l.ranges.items;
  shelf : AreShelved l.given l.shelf.entries;
}
