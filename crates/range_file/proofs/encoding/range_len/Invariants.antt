use Rattle.std.proofs.Common.{◌≡◌, ◌≤◌, ◌+◌, ◌*◌, length, take}
use Rattle.std.specs.List.{flat_map}
use Rattle.lake_format.specs.Spelling.{row_spelling}
use Rattle.range_file.proofs.encoding.range_len.Given as goal

-- the rows so far are counted, and each has few bytes
abbrev pub invariant-loop-row : goal.invariant-loop-row
invariant-loop-row l = record {
  counted : l.len ≡ 5 + length (flat_map row_spelling (take l.row-index l.rows));
  few : l.len ≤ 5 + 77466 * l.row-index;
}
