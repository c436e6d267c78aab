pub mod Writing
pub mod Progress
pub mod Marks
pub mod Pairs
pub mod Both
