pub mod Searching
pub mod Leaves
