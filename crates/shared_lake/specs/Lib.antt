pub mod SeatSteps
