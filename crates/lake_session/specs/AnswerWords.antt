-- What is said of replies and of bodies that are kept, handed on.
pub use Rattle.lake_api.specs.AnswerWords.{IsHeldReply, KeepsFitting}
