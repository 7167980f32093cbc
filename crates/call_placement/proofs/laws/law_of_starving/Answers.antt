use Rattle.call_placement.proofs.StarvedLemmas.{starves}
use Rattle.call_placement.proofs.laws.law_of_starving.Goals as goal

pub returns : goal.returns
returns g c = starves g.P.Placing.rules
