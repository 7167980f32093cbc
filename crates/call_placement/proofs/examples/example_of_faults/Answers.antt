use Rattle.call_placement.proofs.EndLemmas.{fault_ticket, fault_put, fault_giving_up}
use Rattle.call_placement.proofs.examples.example_of_faults.Goals as goal

pub returns-clause-ticket : goal.returns-clause-ticket
returns-clause-ticket c = fault_ticket

pub returns-clause-put : goal.returns-clause-put
returns-clause-put c = fault_put

pub returns-clause-giving_up : goal.returns-clause-giving_up
returns-clause-giving_up c = fault_giving_up
