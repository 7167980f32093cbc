pub mod FollowingLemmas
pub mod PossibleLemmas
pub mod SamePlacesLemmas
