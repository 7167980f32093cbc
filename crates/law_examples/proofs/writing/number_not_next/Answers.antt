use Rattle.law_examples.proofs.WritingLemmas.{take_allowed, take_refused, second_allowed, first_again}
use Rattle.law_examples.proofs.writing.number_not_next.Goals as goal

pub returns-clause-allowed : goal.returns-clause-allowed
returns-clause-allowed c = take_allowed

pub returns-clause-refused : goal.returns-clause-refused
returns-clause-refused c = take_refused

pub returns-clause-allowed_second : goal.returns-clause-allowed_second
returns-clause-allowed_second c = second_allowed

pub returns-clause-refused_again : goal.returns-clause-refused_again
returns-clause-refused_again c = first_again
