use Rattle.std.proofs.Common.{refl}
use Rattle.law_examples.proofs.CallHistoriesLemmas.{beside_legal, beside_served}
use Rattle.law_examples.proofs.calls.upload_beside_a_ticket.Goals as goal

pub returns-clause-legal : goal.returns-clause-legal
returns-clause-legal c = beside_legal

pub returns-clause-next : goal.returns-clause-next
returns-clause-next c cut = refl

pub returns-clause-served : goal.returns-clause-served
returns-clause-served c = beside_served
