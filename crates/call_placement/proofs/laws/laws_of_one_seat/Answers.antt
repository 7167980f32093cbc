use Rattle.call_placement.proofs.AloneLemmas.{goes_alone}
use Rattle.call_placement.proofs.OneValueLemmas.{one_value}
use Rattle.call_placement.proofs.laws.laws_of_one_seat.Goals as goal

pub returns-clause-goes : goal.returns-clause-goes
returns-clause-goes g c = goes_alone g.P.Placing.rules

pub returns-clause-one : goal.returns-clause-one
returns-clause-one g c = one_value g.P.Placing.rules
