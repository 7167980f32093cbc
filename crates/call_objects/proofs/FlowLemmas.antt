-- Lemmas of flows and of answers, handed on.
pub use Rattle.read_flow.proofs.FlowLemmas.{fits_unchanged, reached_nothing, served_stopped}
pub use Rattle.call_readings.proofs.OutcomeLemmas.{names_of_name}
