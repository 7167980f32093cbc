use Rattle.law_examples.proofs.NamesLemmas.{seal_allowed, no_branch}
use Rattle.law_examples.proofs.names.no_branch.Goals as goal

pub returns-clause-allowed : goal.returns-clause-allowed
returns-clause-allowed c = seal_allowed

pub returns-clause-refused : goal.returns-clause-refused
returns-clause-refused c = no_branch
