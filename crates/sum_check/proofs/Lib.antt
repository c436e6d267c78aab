pub mod Readings
pub mod Checks
pub mod Leaf
