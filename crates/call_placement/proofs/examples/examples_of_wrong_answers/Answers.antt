use Rattle.call_placement.proofs.WrongLemmas.{two_puts, put_before, early}
use Rattle.call_placement.proofs.examples.examples_of_wrong_answers.Goals as goal

pub returns-clause-two_puts : goal.returns-clause-two_puts
returns-clause-two_puts c = two_puts

pub returns-clause-put_before : goal.returns-clause-put_before
returns-clause-put_before c = put_before

pub returns-clause-early : goal.returns-clause-early
returns-clause-early c = early
