pub mod Sums
pub mod Near
pub mod Path
pub mod Work
