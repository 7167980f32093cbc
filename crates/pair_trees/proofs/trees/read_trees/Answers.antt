use Rattle.std.proofs.Common.{ap, map, ◌∙◌}
use Rattle.std.proofs.lemmas.List.{take_all}
use Rattle.pair_trees.specs.PairTrees.{tree_in, trees_of}
use Rattle.pair_trees.proofs.trees.read_trees.Goals as goal

pub returns : goal.returns
unfolding trees_of
returns c =
    c.loop-thing.invariant.trees
    ∙ ap (map (tree_in c.args.cut.now c.args.pairs.now))
    (take_all c.loop-thing.thing-index c.as_slice-things.result.now c.loop-thing-test.false ∙ c.as_slice-things.ensures.things)
