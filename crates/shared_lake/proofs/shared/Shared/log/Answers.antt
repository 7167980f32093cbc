use Rattle.shared_lake.proofs.shared.Shared.log.Goals as goal

pub returns-in-Some : goal.returns-in-Some
returns-in-Some g c = rw c.in-Some.is c.log_behind.ensures

pub returns-in-None : goal.returns-in-None
returns-in-None g c = rw c.in-None.is c.log_whole.ensures
