use Rattle.call_placement.proofs.EndLemmas.{ends_early, ends_late, ends_memory, ends_kept, ends_gave, ends_printing}
use Rattle.call_placement.proofs.examples.example_of_refusals.Goals as goal

pub returns-clause-early : goal.returns-clause-early
returns-clause-early c = ends_early

pub returns-clause-late : goal.returns-clause-late
returns-clause-late c = ends_late

pub returns-clause-memory : goal.returns-clause-memory
returns-clause-memory c = ends_memory

pub returns-clause-kept : goal.returns-clause-kept
returns-clause-kept c = ends_kept

pub returns-clause-gave : goal.returns-clause-gave
returns-clause-gave c = ends_gave

pub returns-clause-printing : goal.returns-clause-printing
returns-clause-printing c = ends_printing
