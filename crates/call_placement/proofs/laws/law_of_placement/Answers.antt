use Rattle.call_placement.proofs.SessionLemmas.{are_placed, adds_numbered, edge_within}
use Rattle.call_placement.proofs.laws.law_of_placement.Goals as goal

pub returns-clause-placed : goal.returns-clause-placed
returns-clause-placed g c = are_placed g.P.Placing.rules

pub returns-clause-only : goal.returns-clause-only
returns-clause-only g c = adds_numbered g.P.Placing.rules

pub returns-clause-within : goal.returns-clause-within
returns-clause-within g c = edge_within g.P.Placing.rules
