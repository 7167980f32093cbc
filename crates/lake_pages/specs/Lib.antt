pub mod Listing
pub mod ListingSteps
