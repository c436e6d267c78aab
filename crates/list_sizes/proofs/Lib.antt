pub mod Counts
pub mod Checks
