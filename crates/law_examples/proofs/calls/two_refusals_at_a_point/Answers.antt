use Rattle.law_examples.proofs.CallHistoriesLemmas.{stopped_legal, told_no_ref, told_stopped}
use Rattle.law_examples.proofs.calls.two_refusals_at_a_point.Goals as goal

pub returns-clause-legal : goal.returns-clause-legal
returns-clause-legal c = stopped_legal

pub returns-clause-at_reading : goal.returns-clause-at_reading
returns-clause-at_reading c = told_no_ref

pub returns-clause-at_step : goal.returns-clause-at_step
returns-clause-at_step c = told_stopped
