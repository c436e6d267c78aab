pub mod Nodes
pub mod Grown
pub mod Columns
pub mod ByLevel
