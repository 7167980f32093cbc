-- What is said of seats, of flows and of bodies that are kept, handed on.
pub use Rattle.lake_core.specs.declared.standing.LakeOrigin.{LakeOrigin}
pub use Rattle.shared_lake.specs.SeatSteps.{LakeSeat, SeesOwn}
pub use Rattle.flow_steps.specs.FlowAnswers.{BlockCounts, asked_at, still}
pub use Rattle.flow_steps.specs.FlowSeats.{GoesOn, opened_state, state_at}
pub use Rattle.flow_steps.specs.Flows.{IsFlow}
pub use Rattle.flow_steps.specs.declared.answer.FlowAnswer.{FlowAnswer}
pub use Rattle.body_laws.specs.BodiesKept.{KeepsFitting}
