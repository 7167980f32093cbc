use Rattle.law_examples.proofs.PicksLemmas as picks
use Rattle.law_examples.proofs.committing.pick_of_commit.Goals as goal

pub returns-clause-allowed : goal.returns-clause-allowed
returns-clause-allowed c = picks.pick_allowed

pub returns-clause-no_base : goal.returns-clause-no_base
returns-clause-no_base c = picks.without_base

pub returns-clause-no_source : goal.returns-clause-no_source
returns-clause-no_source c = picks.without_source

pub returns-clause-expired_source : goal.returns-clause-expired_source
returns-clause-expired_source c = picks.expired_source

pub returns-clause-same_map : goal.returns-clause-same_map
returns-clause-same_map c = picks.same_map

pub returns-clause-over_sealed : goal.returns-clause-over_sealed
returns-clause-over_sealed c = picks.over_sealed
