use Rattle.shared_lake.proofs.shared.Shared.prepare.Goals as goal

pub prepare_sides-requires-clause-sides : goal.prepare_sides-requires-clause-sides
prepare_sides-requires-clause-sides g c = rw c.in-Some.is at c.requires.sides

pub returns-in-Some-clause-step : goal.returns-in-Some-clause-step
returns-in-Some-clause-step g c = rw c.in-Some.is c.prepare_sides.ensures.step

pub returns-in-None-clause-step : goal.returns-in-None-clause-step
returns-in-None-clause-step g c = rw c.in-None.is c.prepare_commit.ensures.step
