use Rattle.std.proofs.Common.{◌≡◌, map, take}
use Rattle.pair_trees.specs.PairTrees.{ranges_in, tree_in}
use Rattle.pair_trees.proofs.trees.read_trees.Given as goal

-- the trees of the things so far, of the ranges that are there
abbrev pub invariant-loop-thing : goal.invariant-loop-thing
invariant-loop-thing l = record {
  trees : l.trees.items ≡ map (tree_in l.cut l.pairs) (take l.thing-index l.things);
  ranges : l.reader ≡ ranges_in l.pairs;
}
