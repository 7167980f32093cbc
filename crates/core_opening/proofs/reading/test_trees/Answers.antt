use Rattle.std.proofs.Common.{subst}
use Rattle.pair_trees.specs.PairTrees.{AreTreesRead}
use Rattle.pair_ties.specs.PairTies.{AreTied}
use Rattle.core_opening.proofs.reading.test_trees.Goals as goal

pub returns-in-None : goal.returns-in-None
returns-in-None c = record {
  tied = subst (AreTied c.args.cut.now) c.requires.things c.requires.tied;
  trees = subst (AreTreesRead c.args.cut.now) c.requires.things c.in-None.ensures;
}
