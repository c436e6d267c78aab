pub mod Inside
pub mod Floats
pub mod Domain
pub mod Cells
pub mod Walls
pub mod Rows
