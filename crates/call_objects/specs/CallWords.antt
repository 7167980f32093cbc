-- What is said of seats, of flows and of answers, handed on.
pub use Rattle.read_flow.specs.FlowWords.{BlockCounts, FlowAnswer, GoesOn, IsFlow, KeepsFitting, LakeSeat, SeesOwn, asked_at, opened_state, state_at, still}
pub use Rattle.read_flow.specs.ObjectReads.{counted_between}
pub use Rattle.read_flow.specs.WrittenWords.{Step}
pub use Rattle.call_readings.specs.ToldFaults.{AreNames, IsFaultTold}
pub use Rattle.call_readings.specs.declared.answers.Answered.{Answered}
