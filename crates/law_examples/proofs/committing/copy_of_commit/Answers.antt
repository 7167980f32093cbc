use Rattle.law_examples.proofs.PicksLemmas.{copy_allowed, copy_refused, copy_of_none, copy_of_nothing}
use Rattle.law_examples.proofs.committing.copy_of_commit.Goals as goal

pub returns-clause-allowed : goal.returns-clause-allowed
returns-clause-allowed c = copy_allowed

pub returns-clause-expired : goal.returns-clause-expired
returns-clause-expired c = copy_refused

pub returns-clause-no_commit : goal.returns-clause-no_commit
returns-clause-no_commit c = copy_of_none

pub returns-clause-nothing_there : goal.returns-clause-nothing_there
returns-clause-nothing_there c = copy_of_nothing
