pub mod SeatsLemmas
pub mod RuleLemmas
pub mod TurnStepsLemmas
pub mod SeatStepsLemmas
pub mod TurnLemmas
