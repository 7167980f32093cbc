-- Lemmas of calls that are answered, handed on.
pub use Rattle.call_objects.proofs.AnsweredLemmas.{IsOtherCall, other_answered}
pub use Rattle.call_objects.proofs.FlowLemmas.{fits_unchanged, reached_nothing, served_stopped}
pub use Rattle.call_objects.proofs.ReadingLemmas.{of_reading}
