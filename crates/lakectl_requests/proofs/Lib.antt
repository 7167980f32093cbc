pub mod CallLemmas
pub mod HeadEndLemmas
pub mod HostLemmas
pub mod TargetLemmas
pub mod TextLemmas
pub mod ValueLemmas
pub mod WordsLemmas
