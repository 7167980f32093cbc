use Rattle.pair_trees.proofs.FoundLemmas.{at_some, commit_found}
use Rattle.pair_trees.proofs.found.commit_of.Goals as goal

pub returns-in-Some : goal.returns-in-Some
returns-in-Some c =
    commit_found c.args.pairs.now c.in-Some.stored.now c.args.repo.now c.args.id.now
    (at_some _ _ c.in_ok-stored.field-0 c.in-Some.stored c.in_ok-stored.ensures c.in-Some.is) c.commit_part.result c.commit_part.ensures
