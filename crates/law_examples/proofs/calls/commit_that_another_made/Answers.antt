use Rattle.std.proofs.Common.{refl}
use Rattle.law_examples.proofs.CallHistoriesLemmas.{taken_legal, taken_served}
use Rattle.law_examples.proofs.calls.commit_that_another_made.Goals as goal

pub returns-clause-legal : goal.returns-clause-legal
returns-clause-legal c = taken_legal

pub returns-clause-own : goal.returns-clause-own
returns-clause-own c about = refl

pub returns-clause-served : goal.returns-clause-served
returns-clause-served c = taken_served
