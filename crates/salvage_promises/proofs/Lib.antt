pub mod Examples
pub mod Taken
pub mod Runs
pub mod Pairs
pub mod Empty
