use Rattle.law_examples.proofs.PicksLemmas.{reasoned, unreasoned}
use Rattle.law_examples.proofs.committing.hook_that_denies_pick.Goals as goal

pub returns-clause-allowed : goal.returns-clause-allowed
returns-clause-allowed c = reasoned

pub returns-clause-refused : goal.returns-clause-refused
returns-clause-refused c = unreasoned
