use Rattle.law_examples.proofs.CallHistoriesLemmas.{before_edge}
use Rattle.law_examples.proofs.calls.position_before_the_edge.Goals as goal

pub returns : goal.returns
returns c = before_edge
