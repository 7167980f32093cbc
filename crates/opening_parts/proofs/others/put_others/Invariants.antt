use Rattle.std.proofs.Common.{◌≡◌, All, map}
use Rattle.std.specs.BTreeMap.{get as tree_get}
use Rattle.std.specs.List.{AllByRecursion}
use Rattle.std.specs.Ordering.{nat_cmp}
use Rattle.std.specs.Vec.{vec_len}
use Rattle.pair_trees.specs.PairTrees.{tree_in}
use Rattle.core_state.specs.LakeStates.{lake_value}
use Rattle.core_filling.specs.Filling.{IsNamed, commit_read}
use Rattle.opening_parts.specs.Filled.{CanJoin}
use Rattle.opening_parts.specs.Fillings.{from_last, reads_of, with_read_of, with_rest}
use Rattle.opening_parts.proofs.others.put_others.Given as goal

-- the trees are those of the things to come; these over what was put and gathered are all
abbrev pub invariant-loop-thing : goal.invariant-loop-thing
invariant-loop-thing l = record {
  trees : l.trees.items ≡ map (tree_in l.cut l.fn.things.items) l.things.items;
  join : AllByRecursion CanJoin l.things.items;
  lake : from_last (with_rest (tree_get nat_cmp l.holders)) l.things.items (lake_value l.lake)
      ≡ from_last (with_rest (tree_get nat_cmp l.holders)) l.fn.things.items (lake_value l.fn.lake);
  reads : from_last (with_read_of l.cut l.fn.things.items) l.things.items (map commit_read l.commits.items) ≡ reads_of l.cut l.fn.things.items;
  named : All IsNamed l.commits.items;
}

abbrev pub decreases-loop-thing : goal.decreases-loop-thing
decreases-loop-thing l = vec_len l.things
