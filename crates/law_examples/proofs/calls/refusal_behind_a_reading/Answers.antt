use Rattle.std.proofs.Common.{refl}
use Rattle.law_examples.proofs.CallHistoriesLemmas.{protected_legal, told_protected}
use Rattle.law_examples.proofs.calls.refusal_behind_a_reading.Goals as goal

pub returns-clause-legal : goal.returns-clause-legal
returns-clause-legal c = protected_legal

pub returns-clause-own : goal.returns-clause-own
returns-clause-own c = refl

pub returns-clause-served : goal.returns-clause-served
returns-clause-served c = told_protected
