-- Lemmas of calls that are answered, handed on.
pub use Rattle.call_heads.proofs.AnswerLemmas.{reached_nothing, served_stopped}
