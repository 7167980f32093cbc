use Rattle.law_examples.proofs.WritingLemmas.{running_allowed, stopped_others, stopped_refused}
use Rattle.law_examples.proofs.writing.stopped.Goals as goal

pub returns-clause-allowed : goal.returns-clause-allowed
returns-clause-allowed c = running_allowed

pub returns-clause-others : goal.returns-clause-others
returns-clause-others c = stopped_others

pub returns-clause-refused : goal.returns-clause-refused
returns-clause-refused c = stopped_refused
