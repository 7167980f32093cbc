pub mod FillingLemmas
pub mod NamesLemmas
pub mod PlacesLemmas
