pub mod Cells
pub mod Nearness
pub mod Checks
pub mod Arithmetic
pub mod Runs
