pub mod Refused
pub mod Examples
pub mod Putting
pub mod Lined
pub mod Levels
pub mod Columns
pub mod Bound
pub mod SameText
