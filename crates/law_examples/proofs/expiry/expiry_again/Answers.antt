use Rattle.law_examples.proofs.ExpiryLemmas.{none_left, not_again}
use Rattle.law_examples.proofs.expiry.expiry_again.Goals as goal

pub returns-clause-allowed : goal.returns-clause-allowed
returns-clause-allowed c = none_left

pub returns-clause-refused : goal.returns-clause-refused
returns-clause-refused c = not_again
