use Rattle.std.proofs.Common.{◌≡◌, ◌<◌, ◌++◌, ◌^◌, length}
use Rattle.std.specs.List.{AllByRecursion}
use Rattle.lake_base.specs.Maps.{HasAscendingKeys}
use Rattle.lake_format.specs.Cutting.{ranges}
use Rattle.lake_format.specs.Spelling.{IsRange}
use Rattle.meta_range.proofs.tree.Tree.build.Given as goal

-- the ranges so far are those before the rest, whose paths ascend, and they are within their limits
abbrev pub invariant-loop-rest : goal.invariant-loop-rest
invariant-loop-rest l = record {
  few : length l.rest < 2 ^ 32;
  ascend : HasAscendingKeys l.rest;
  made : l.ranges.items ++ ranges l.cut l.rest ≡ ranges l.cut l.initial.rest;
  each : AllByRecursion IsRange l.ranges.items;
}

abbrev pub decreases-loop-rest : goal.decreases-loop-rest
decreases-loop-rest l = length l.rest
