pub mod BodyChanges
pub mod BodiesKept
