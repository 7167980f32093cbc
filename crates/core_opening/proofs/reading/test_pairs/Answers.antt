use Rattle.pair_trees.proofs.FoundLemmas.{at_none, at_some}
use Rattle.pair_ties.specs.BrokenPairs.{IsFirstBroken}
use Rattle.pair_ties.specs.PairTies.{AreTied}
use Rattle.core_opening.proofs.reading.test_pairs.Goals as goal

pub returns-in-Some : goal.returns-in-Some
returns-in-Some c =
    at_some (AreTied c.args.cut.now c.args.spelled.now) (IsFirstBroken c.args.cut.now c.args.pairs.now) c.in_ok-number.field-0 c.in-Some.number
    c.in_ok-number.ensures c.in-Some.is

pub test_trees-requires-clause-tied : goal.test_trees-requires-clause-tied
test_trees-requires-clause-tied c =
    at_none (AreTied c.args.cut.now c.args.spelled.now) (IsFirstBroken c.args.cut.now c.args.pairs.now) c.in_ok-number.field-0
    c.in_ok-number.ensures c.in-None.is

pub test_trees-requires-clause-things : goal.test_trees-requires-clause-things
test_trees-requires-clause-things c = c.requires.spelled.same
