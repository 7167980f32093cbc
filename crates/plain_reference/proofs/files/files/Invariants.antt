use Rattle.std.proofs.Common.{◌≡◌, ◌+◌, ◌≤◌, ◌++◌, length, map}
use Rattle.std.specs.List.{AllByRecursion}
use Rattle.lake_format.specs.Cutting.{ranges}
use Rattle.lake_base.specs.Maps.{HasAscendingKeys}
use Rattle.lake_format.specs.Spelling.{range_spelling, line_of, IsRange}
use Rattle.plain_reference.proofs.files.files.Given as goal

-- the files and the lines so far are those of the ranges before the rest, whose paths ascend
abbrev pub invariant-loop-rest : goal.invariant-loop-rest
invariant-loop-rest l = record {
  few : length l.rest ≤ length l.initial.rest;
  ascend : HasAscendingKeys l.rest;
  counted : length l.lines.items + length (ranges l.cut l.rest) ≡ length (ranges l.cut l.initial.rest);
  made : l.ranges.items ++ map range_spelling (ranges l.cut l.rest) ≡ map range_spelling (ranges l.cut l.initial.rest);
  each : AllByRecursion IsRange (ranges l.cut l.rest) → AllByRecursion IsRange (ranges l.cut l.initial.rest);
  said : l.lines.items ++ map line_of (ranges l.cut l.rest) ≡ map line_of (ranges l.cut l.initial.rest);
}

abbrev pub decreases-loop-rest : goal.decreases-loop-rest
decreases-loop-rest l = length l.rest
