pub mod BranchChanges
pub mod FreshTokens
pub mod LakeChanges
pub mod LakeRoom
pub mod NewPlaces
pub mod NewRepositories
pub mod RepositoryChanges
