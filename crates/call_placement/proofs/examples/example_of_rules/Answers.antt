use Rattle.call_placement.proofs.ExampleLemmas.{toy_lawful}
use Rattle.call_placement.proofs.ToyLemmas.{determined, tells_done, tells_fault}
use Rattle.call_placement.proofs.examples.example_of_rules.Goals as goal

pub returns-clause-lawful : goal.returns-clause-lawful
returns-clause-lawful c = toy_lawful

pub returns-clause-done : goal.returns-clause-done
returns-clause-done c = tells_done

pub returns-clause-fault : goal.returns-clause-fault
returns-clause-fault c = tells_fault

pub returns-clause-determined : goal.returns-clause-determined
returns-clause-determined c = determined
