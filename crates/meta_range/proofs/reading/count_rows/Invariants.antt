use Rattle.std.proofs.Common.{◌≡◌, ◌≤◌, ◌*◌, length, take}
use Rattle.meta_range.specs.Ranges.{rows_of}
use Rattle.meta_range.proofs.reading.count_rows.Given as goal

-- the rows so far are counted, and each range has few
abbrev pub invariant-loop-range : goal.invariant-loop-range
invariant-loop-range l = record {
  counted : l.count ≡ length (rows_of (take l.range-index l.ranges));
  few : l.count ≤ 4294967296 * l.range-index;
}
