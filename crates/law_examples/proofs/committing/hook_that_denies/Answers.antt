use Rattle.law_examples.proofs.CommittingLemmas.{hook_refuses}
use Rattle.law_examples.proofs.WritingLemmas.{ready_commit}
use Rattle.law_examples.proofs.committing.hook_that_denies.Goals as goal

pub returns-clause-allowed : goal.returns-clause-allowed
returns-clause-allowed c = ready_commit

pub returns-clause-refused : goal.returns-clause-refused
returns-clause-refused c = hook_refuses
