pub mod Groups
pub mod Passes
pub mod Batches
