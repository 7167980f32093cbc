pub mod NewHeads
pub mod HeadTries
pub mod HeadSeals
pub mod HeadPauses
