pub mod Keys
pub mod PairReading
pub mod PairSpelling
