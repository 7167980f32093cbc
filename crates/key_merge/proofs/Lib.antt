pub mod RowsLemmas
pub mod FrontLemmas
pub mod ChangesLemmas
pub mod ConflictsLemmas
pub mod WalkLemmas
pub mod LawLemmas
