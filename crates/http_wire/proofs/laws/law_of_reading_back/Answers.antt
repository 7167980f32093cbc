use Rattle.http_wire.proofs.ReadBackLemmas.{read_back, call_back, no_memory_back}
use Rattle.http_wire.proofs.laws.law_of_reading_back.Goals as goal

pub returns-clause-text : goal.returns-clause-text
returns-clause-text c = read_back

pub returns-clause-call : goal.returns-clause-call
returns-clause-call c reply rest before had result held left readable all answer = call_back reply rest readable before had all result held left answer

pub returns-clause-no_memory : goal.returns-clause-no_memory
returns-clause-no_memory c = no_memory_back
