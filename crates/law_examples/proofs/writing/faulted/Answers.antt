use Rattle.law_examples.proofs.WritingLemmas.{fault_allowed, fault_refused, nothing_after, same_condition}
use Rattle.law_examples.proofs.writing.faulted.Goals as goal

pub returns-clause-allowed : goal.returns-clause-allowed
returns-clause-allowed c = fault_allowed

pub returns-clause-refused : goal.returns-clause-refused
returns-clause-refused c = fault_refused

pub returns-clause-tried : goal.returns-clause-tried
returns-clause-tried c = same_condition

pub returns-clause-last : goal.returns-clause-last
returns-clause-last c = nothing_after
