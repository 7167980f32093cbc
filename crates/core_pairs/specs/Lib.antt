pub mod KeptPlaces
pub mod LakePairs
pub mod PutWords
