pub mod ToldFaults
pub mod StepOutcomes
pub mod AnsweredReadings
