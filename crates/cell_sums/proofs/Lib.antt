pub mod Runs
pub mod Kept
pub mod Lifts
