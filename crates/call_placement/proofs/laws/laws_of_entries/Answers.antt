use Rattle.call_placement.proofs.EntryLemmas.{done_entries, refused_lacks, fault_noted, none_noted}
use Rattle.call_placement.proofs.laws.laws_of_entries.Goals as goal

pub returns-clause-done : goal.returns-clause-done
returns-clause-done g c tells opened by edge next start entries item =
    done_entries g.P.Placing.rules tells opened by edge entries item next start

pub returns-clause-refused : goal.returns-clause-refused
returns-clause-refused g c tells opened by edge next start entries item =
    refused_lacks g.P.Placing.rules tells opened by edge entries item next start

pub returns-clause-failed : goal.returns-clause-failed
returns-clause-failed g c tells tells_fault opened by edge next start entries item =
    fault_noted g.P.Placing.rules tells opened by edge entries item tells_fault next start

pub returns-clause-no_note : goal.returns-clause-no_note
returns-clause-no_note g c tells_fault opened by edge next start entries item p =
    none_noted g.P.Placing.rules tells_fault opened by edge entries item next start p
