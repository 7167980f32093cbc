use Rattle.pair_trees.proofs.FoundLemmas.{at_none, at_some}
use Rattle.pair_ties.proofs.NamesLemmas.{live_absent, live_found}
use Rattle.pair_ties.proofs.names.isnt_expired.Goals as goal

pub returns-in-Some : goal.returns-in-Some
returns-in-Some c =
    live_found c.args.pairs.now c.args.repo.now c.args.id.now c.in-Some.expired c.in-Some.field-0-1.now
    (at_some _ _ c.in_ok-expired.field-0 (c.in-Some.expired, c.in-Some.field-0-1) c.in_ok-expired.ensures c.in-Some.is)

pub returns-in-None : goal.returns-in-None
returns-in-None c =
    live_absent c.args.pairs.now c.args.repo.now c.args.id.now (at_none _ _ c.in_ok-expired.field-0 c.in_ok-expired.ensures c.in-None.is)
