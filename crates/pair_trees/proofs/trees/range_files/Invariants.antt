use Rattle.std.proofs.Common.{◌≡◌, take}
use Rattle.pair_trees.specs.PairTrees.{ranges_in}
use Rattle.pair_trees.proofs.trees.range_files.Given as goal

-- the range files so far
abbrev pub invariant-loop-thing : goal.invariant-loop-thing
invariant-loop-thing l = l.files.items ≡ ranges_in (take l.thing-index l.things)
