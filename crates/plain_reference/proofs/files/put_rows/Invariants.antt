use Rattle.std.proofs.Common.{◌≡◌, ◌++◌, take}
use Rattle.std.specs.List.{flat_map, AllByRecursion}
use Rattle.lake_format.specs.Spelling.{row_spelling, IsRow}
use Rattle.plain_reference.proofs.files.put_rows.Given as goal

-- the rows so far are written, and they are within their limits
abbrev pub invariant-loop-path : goal.invariant-loop-path
invariant-loop-path l = record {
  written : l.out.items ≡ l.fn.out.items ++ flat_map row_spelling (take l.path-index l.rows);
  limits : AllByRecursion IsRow (take l.path-index l.rows);
}
