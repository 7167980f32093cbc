pub mod Answers
pub mod NamedRows
pub mod Preparations
pub mod Trees
