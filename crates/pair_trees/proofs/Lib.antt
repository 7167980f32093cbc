pub mod FoundLemmas
pub mod ProvenanceLemmas
pub mod SpelledLemmas
pub mod TablesLemmas
pub mod TextsLemmas
pub mod ThingsLemmas
pub mod TreesLemmas
pub mod UnreadLemmas
