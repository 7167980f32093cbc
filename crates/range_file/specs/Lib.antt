pub mod RangeReading
pub mod Rows
