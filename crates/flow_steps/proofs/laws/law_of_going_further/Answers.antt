use Rattle.flow_steps.proofs.SeatFlowLemmas.{goes_further}
use Rattle.flow_steps.proofs.laws.law_of_going_further.Goals as goal

pub returns : goal.returns
returns c origin call old now next one two = goes_further origin call old now next one two
