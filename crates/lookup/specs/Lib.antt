pub mod Lookup
pub mod Batch
pub mod Work
pub mod Single
