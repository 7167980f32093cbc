pub mod ListingAllLemmas
pub mod ListingItemLemmas
pub mod ListingNameLemmas
pub mod ListingPageLemmas
pub mod ListingPrefixLemmas
pub mod ListingStartLemmas
pub mod ListingStepLemmas
