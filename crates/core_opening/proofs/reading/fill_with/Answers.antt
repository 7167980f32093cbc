use Rattle.std.proofs.Common.{List, Option, ap, subst, sym, ◌∙◌}
use Rattle.std.specs.List.{AllByRecursion}
use Rattle.pair_format.specs.declared.stored.Stored.{Stored}
use Rattle.pair_trees.specs.Found.{AreCounts}
use Rattle.pair_trees.specs.PairTrees.{trees_of}
use Rattle.pair_trees.specs.Things.{HasKey}
use Rattle.pair_trees.proofs.FoundLemmas.{at_some}
use Rattle.opening_parts.specs.Filled.{CanJoin}
use Rattle.core_opening.proofs.OpeningLemmas.{filled_lake, they_join}
use Rattle.core_opening.proofs.reading.fill_with.Goals as goal

pub fill-requires-clause-trees : goal.fill-requires-clause-trees
fill-requires-clause-trees c = c.requires.trees ∙ sym (ap (trees_of c.args.cut) c.into_things.ensures)

pub fill-requires-clause-join : goal.fill-requires-clause-join
fill-requires-clause-join c =
    subst (AllByRecursion CanJoin) (sym c.into_things.ensures)
    (they_join c.args.cut c.args.pairs.now c.args.spelled c.requires.spelled c.requires.whole)

pub returns-in-Some : goal.returns-in-Some
returns-in-Some c =
    let told = at_some _ (AreCounts c.args.spelled) c.in_ok-counts.field-0 c.in-Some.counts c.in_ok-counts.ensures c.in-Some.is in
    filled_lake c.args.cut c.args.pairs.now c.args.spelled c.requires.spelled c.requires.whole c.in-Some.counts told
    c.into_things.result.items c.into_things.ensures c.fill.result c.fill.ensures.lake c.fill.ensures.places
