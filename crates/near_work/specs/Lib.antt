pub mod Work
pub mod Answers
pub mod ByTarget
