pub mod Owned
pub mod Columns
pub mod Counts
pub mod Checks
pub mod ByTarget
