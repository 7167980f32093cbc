use Rattle.law_examples.proofs.WritingLemmas.{copy_allowed, copy_of_nothing, copy_of_another, copy_from_none}
use Rattle.law_examples.proofs.writing.entry_not_at_source.Goals as goal

pub returns-clause-allowed : goal.returns-clause-allowed
returns-clause-allowed c = copy_allowed

pub returns-clause-nothing_there : goal.returns-clause-nothing_there
returns-clause-nothing_there c = copy_of_nothing

pub returns-clause-another : goal.returns-clause-another
returns-clause-another c = copy_of_another

pub returns-clause-no_branch : goal.returns-clause-no_branch
returns-clause-no_branch c = copy_from_none
