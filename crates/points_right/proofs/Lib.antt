pub mod Runs
pub mod Codes
pub mod Judged
