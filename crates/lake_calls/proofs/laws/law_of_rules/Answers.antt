use Rattle.lake_calls.proofs.RuleLemmas.{lawful, tells_done, tells_fault}
use Rattle.lake_calls.proofs.laws.law_of_rules.Goals as goal

pub returns-clause-lawful : goal.returns-clause-lawful
returns-clause-lawful c = lawful

pub returns-clause-done : goal.returns-clause-done
returns-clause-done c = tells_done

pub returns-clause-fault : goal.returns-clause-fault
returns-clause-fault c = tells_fault
