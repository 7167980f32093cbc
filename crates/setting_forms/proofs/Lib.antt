pub mod FormsLemmas
pub mod RulesLemmas
pub mod TextLemmas
