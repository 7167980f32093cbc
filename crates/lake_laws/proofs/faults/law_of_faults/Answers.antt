use Rattle.lake_laws.proofs.HistoryLemmas.{IsLegal-later, after_fault_none}
use Rattle.lake_laws.proofs.faults.law_of_faults.Goals as goal

pub returns : goal.returns
returns c state before later by tried legal = after_fault_none _ by tried later (IsLegal-later state before _ legal)
