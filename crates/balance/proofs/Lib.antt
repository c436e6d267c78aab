-- Balance has the theorems; Examples and Applied show that they speak of something.
pub mod Examples
pub mod Cells
pub mod Points
pub mod Blocks
pub mod Stored
pub mod Least
pub mod Wanted
pub mod Around
pub mod DepthFirst
pub mod Ordered
pub mod Holding
pub mod Balance
pub mod Columns
pub mod Applied
