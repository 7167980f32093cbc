use Rattle.call_placement.proofs.ServedLemmas.{goes_on}
use Rattle.call_placement.proofs.laws.law_of_going_on.Goals as goal

pub returns : goal.returns
returns g c = goes_on g.P.Placing.rules
