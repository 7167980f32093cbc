use Rattle.lake_core.proofs.StopLemmas.{stopped_just}
use Rattle.lake_core.proofs.faults.law_of_stops.Goals as goal

pub returns : goal.returns
returns c = stopped_just
