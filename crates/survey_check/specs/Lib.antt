pub mod Answers
pub mod Pass
