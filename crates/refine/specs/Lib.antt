pub mod Counts
pub mod Refinement
pub mod Cells
pub mod Sums
