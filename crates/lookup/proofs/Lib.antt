pub mod TreeRule
pub mod Leaves
pub mod Batch
pub mod Calls
pub mod Single
pub mod Steps
pub mod Lowest
