pub mod OptionValues
pub mod OptionViews
pub mod SentMessages
pub mod SentViews
pub mod UriPlaces
