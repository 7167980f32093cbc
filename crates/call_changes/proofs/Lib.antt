pub mod CauseTellLemmas
pub mod ChangeLemmas
pub mod DecisionLemmas
pub mod CreationLemmas
pub mod SettingLemmas
pub mod StarvedLemmas
