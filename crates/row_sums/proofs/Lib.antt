pub mod Whole
pub mod Runs
pub mod Found
pub mod Walk
pub mod Counting
pub mod Climbing
