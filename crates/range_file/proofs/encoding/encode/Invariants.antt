use Rattle.std.proofs.Common.{◌≡◌, ◌∷◌, ◌++◌, length, take}
use Rattle.std.specs.Int.{w32, to_be_bytes}
use Rattle.std.specs.List.{flat_map, AllByRecursion}
use Rattle.lake_format.specs.Spelling.{row_spelling, IsRow}
use Rattle.range_file.proofs.encoding.encode.Given as goal

-- the rows so far are written, and they are within their limits
abbrev pub invariant-loop-row : goal.invariant-loop-row
invariant-loop-row l = record {
  written : l.out.items ≡ (1 ∷ to_be_bytes w32 (length l.rows)) ++ flat_map row_spelling (take l.row-index l.rows);
  limits : AllByRecursion IsRow (take l.row-index l.rows);
}
