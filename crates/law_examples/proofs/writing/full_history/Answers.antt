use Rattle.law_examples.proofs.WritingLemmas.{last_allowed, full_refused}
use Rattle.law_examples.proofs.writing.full_history.Goals as goal

pub returns-clause-allowed : goal.returns-clause-allowed
returns-clause-allowed c = last_allowed

pub returns-clause-refused : goal.returns-clause-refused
returns-clause-refused c = full_refused
