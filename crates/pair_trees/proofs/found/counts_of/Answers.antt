use Rattle.pair_trees.proofs.FoundLemmas.{at_some, counts_found}
use Rattle.pair_trees.proofs.found.counts_of.Goals as goal

pub returns-in-Some : goal.returns-in-Some
returns-in-Some c =
    counts_found c.args.pairs.now c.in-Some.stored.now (at_some _ _ c.in_ok-stored.field-0 c.in-Some.stored c.in_ok-stored.ensures c.in-Some.is)
    c.counts_part.result c.counts_part.ensures
