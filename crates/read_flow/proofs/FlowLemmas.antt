-- Lemmas of flows and of bodies that are kept, handed on.
pub use Rattle.flow_steps.proofs.FlowEndLemmas.{reached_nothing, served_stopped}
pub use Rattle.body_laws.proofs.FlowBodyLemmas.{fits_unchanged, none_of_both}
