use Rattle.core_keeping.proofs.FollowingLemmas.{follow_fault, follow_same, keep_rest}
use Rattle.core_keeping.proofs.lakes.laws_of_followed_lakes.Goals as goal

pub returns-clause-fresh : goal.returns-clause-fresh
returns-clause-fresh c files cut new = record {
  kept = record { stand = c.law_of_fresh_pairs.ensures.pairs cut; apart = c.law_of_fresh_pairs.ensures.tokens cut };
  places = c.laws_of_places.ensures.fresh files cut new;
}

pub returns-clause-fault : goal.returns-clause-fault
returns-clause-fault c pairs files l follow = follow_fault pairs files l follow

pub returns-clause-same : goal.returns-clause-same
returns-clause-same c pairs files other l same follow = follow_same pairs files other l same follow

pub returns-clause-rest : goal.returns-clause-rest
returns-clause-rest c pairs l kept = keep_rest pairs l kept
