pub mod Putting
pub mod Spreading
pub mod Turns
pub mod Stepping
pub mod Starting
pub mod Ending
