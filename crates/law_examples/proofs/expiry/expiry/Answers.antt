use Rattle.law_examples.proofs.ExpiryLemmas.{legal, named_before, garbage, named_by_head, named_by_seal, named_by_ticket}
use Rattle.law_examples.proofs.expiry.expiry.Goals as goal

pub returns-clause-legal : goal.returns-clause-legal
returns-clause-legal c cut digest first_admissible second_admissible apart = legal cut digest apart first_admissible second_admissible

pub returns-clause-named_before : goal.returns-clause-named_before
returns-clause-named_before c = named_before

pub returns-clause-garbage : goal.returns-clause-garbage
returns-clause-garbage c = garbage

pub returns-clause-named_by_head : goal.returns-clause-named_by_head
returns-clause-named_by_head c = named_by_head

pub returns-clause-named_by_seal : goal.returns-clause-named_by_seal
returns-clause-named_by_seal c = named_by_seal

pub returns-clause-named_by_ticket : goal.returns-clause-named_by_ticket
returns-clause-named_by_ticket c = named_by_ticket
