pub mod NewestChanges
pub mod OwnSeals
