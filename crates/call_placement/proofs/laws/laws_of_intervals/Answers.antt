use Rattle.call_placement.proofs.WalkLemmas.{are_others, nothing_came, came_on, one_point_more}
use Rattle.call_placement.proofs.laws.laws_of_intervals.Goals as goal

pub returns-clause-others : goal.returns-clause-others
returns-clause-others g c = are_others g.P.Placing.rules

pub returns-clause-none : goal.returns-clause-none
returns-clause-none g c = nothing_came g.P.Placing.rules

pub returns-clause-twice : goal.returns-clause-twice
returns-clause-twice g c = came_on g.P.Placing.rules

pub returns-clause-more : goal.returns-clause-more
returns-clause-more g c = one_point_more g.P.Placing.rules
