-- What is said of calls that are answered, handed on.
pub use Rattle.call_heads.specs.AnswerWords.{Answered, GoesOn, IsCallAnswered, IsFlow, IsGivenReply, IsHeldReply, KeepsFitting, LakeSeat, ReadsGiven, ReadsHeld, SeesOwn}
pub use Rattle.call_heads.specs.AnswerWords.{asked_at, counted_between, opened_state, state_at}
