-- What is said of calls that are answered, handed on.
pub use Rattle.call_objects.specs.AnsweredCalls.{IsCallAnswered}
pub use Rattle.call_objects.specs.CallWords.{Answered, GoesOn, IsFlow, KeepsFitting, LakeSeat, SeesOwn, asked_at, counted_between, opened_state, state_at, still}
pub use Rattle.call_objects.specs.HeldReplies.{IsGivenReply, IsHeldReply, ReadsGiven, ReadsHeld}
