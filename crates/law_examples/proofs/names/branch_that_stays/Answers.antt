use Rattle.law_examples.proofs.NamesLemmas.{mail_goes, main_stays, protected_stays}
use Rattle.law_examples.proofs.names.branch_that_stays.Goals as goal

pub returns-clause-allowed : goal.returns-clause-allowed
returns-clause-allowed c = mail_goes

pub returns-clause-default : goal.returns-clause-default
returns-clause-default c = main_stays

pub returns-clause-protected : goal.returns-clause-protected
returns-clause-protected c = protected_stays
