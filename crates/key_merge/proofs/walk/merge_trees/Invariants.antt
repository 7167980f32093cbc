use Rattle.std.proofs.Common.{◌≡◌, ◌+◌, ◌<◌, ◌^◌, ◌++◌, length}
use Rattle.std.specs.FinMap.{entries}
use Rattle.lake_values.specs.KeyMap.{differences}
use Rattle.lake_values.specs.Merging.{merged_map}
use Rattle.key_merge.specs.MergeWalk.{changes_of, refusals_of, refused_paths}
use Rattle.key_merge.proofs.walk.merge_trees.Given as goal

-- what is gathered, before the changes still to come, is all of them; and so far nothing was refused
abbrev pub invariant-loop-front : goal.invariant-loop-front
invariant-loop-front l = record {
  few : length l.sides.base + length l.sides.source < 2 ^ 60;
  gathered : l.changes.items ++ changes_of l.strategy l.sides ≡ entries (differences (merged_map l.strategy l.base.map l.source.map l.dest.map) l.dest.map);
  unrefused : refusals_of l.strategy l.sides ≡ refused_paths l.strategy l.base.map l.source.map l.dest.map;
}

abbrev pub decreases-loop-front : goal.decreases-loop-front
decreases-loop-front l = length l.sides.base + length l.sides.source
