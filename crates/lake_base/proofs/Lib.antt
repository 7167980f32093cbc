pub mod ClocksLemmas
pub mod DigestLemmas
pub mod ListLemmas
pub mod MapsLemmas
pub mod NamesLemmas
