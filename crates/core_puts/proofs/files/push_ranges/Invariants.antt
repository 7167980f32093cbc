use Rattle.std.proofs.Common.{◌≡◌, ◌++◌, drop, map}
use Rattle.core_puts.proofs.FilesLemmas.{range_of}
use Rattle.core_puts.proofs.files.push_ranges.Given as goal

-- the puts so far, and those of the ranges to come, are all
abbrev pub invariant-loop-range : goal.invariant-loop-range
invariant-loop-range l = l.puts.items ++ map range_of (drop l.range-index l.ranges) ≡ l.initial.puts.items ++ map range_of l.ranges
