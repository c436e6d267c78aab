pub mod Spreading
pub mod Totals
pub mod Points
pub mod Settling
