use Rattle.pair_trees.proofs.FoundLemmas.{at_some, metarange_found}
use Rattle.pair_trees.proofs.found.metarange_of.Goals as goal

pub returns-in-Some : goal.returns-in-Some
returns-in-Some c =
    metarange_found c.args.pairs.now c.in-Some.stored.now c.args.name.now
    (at_some _ _ c.in_ok-stored.field-0 c.in-Some.stored c.in_ok-stored.ensures c.in-Some.is)
    c.metarange_part.result c.metarange_part.ensures
