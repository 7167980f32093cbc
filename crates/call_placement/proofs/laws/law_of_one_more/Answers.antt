use Rattle.call_placement.proofs.ServedLemmas.{one_more}
use Rattle.call_placement.proofs.laws.law_of_one_more.Goals as goal

pub returns : goal.returns
returns g c = one_more g.P.Placing.rules
