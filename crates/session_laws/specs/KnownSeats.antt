-- What is known of what a seat has seen.
use Rattle.lake_core.specs.declared.standing.LakeOrigin.{LakeOrigin}
use Rattle.lake_model.specs.History.{IsLegal}
use Rattle.lake_model.specs.Soundness.{IsSound}
use Rattle.flow_steps.specs.FlowSeats.{opened_state}
use Rattle.shared_lake.specs.SeatSteps.{LakeSeat, SeesOwn}

-- what a seat has seen is legal, from the sound state that its lake was opened as, and has of the seat's number just its own entries
pub record IsKnown (origin : LakeOrigin) (seat : LakeSeat) : Type 0 where
  pub sound : IsSound (opened_state origin)
  pub legal : IsLegal (opened_state origin) seat.seen
  pub own : SeesOwn seat
