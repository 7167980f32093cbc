use Rattle.law_examples.proofs.CallHistoriesLemmas.{dropped_legal, dropped_served}
use Rattle.law_examples.proofs.calls.upload_without_memory.Goals as goal

pub returns-clause-legal : goal.returns-clause-legal
returns-clause-legal c cut body = dropped_legal cut body 0

pub returns-clause-served : goal.returns-clause-served
returns-clause-served c = dropped_served
