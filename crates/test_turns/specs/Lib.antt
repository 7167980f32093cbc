pub mod SmallLake
