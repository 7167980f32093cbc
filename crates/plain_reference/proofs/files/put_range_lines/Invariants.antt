use Rattle.std.proofs.Common.{◌≡◌, ◌++◌, take}
use Rattle.std.specs.List.{flat_map, AllByRecursion}
use Rattle.lake_format.specs.Spelling.{line_spelling, IsLine}
use Rattle.plain_reference.proofs.files.put_range_lines.Given as goal

-- the lines so far are written, and they are within their limits
abbrev pub invariant-loop-line : goal.invariant-loop-line
invariant-loop-line l = record {
  written : l.out.items ≡ l.fn.out.items ++ flat_map line_spelling (take l.line-index l.lines);
  limits : AllByRecursion IsLine (take l.line-index l.lines);
}
