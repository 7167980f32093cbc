pub mod CommandWords
pub mod BatchViews
pub mod Batches
