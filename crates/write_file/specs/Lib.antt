pub mod Fitting
pub mod Answers
