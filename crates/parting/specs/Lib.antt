pub mod Pairs
pub mod Cells
pub mod Setting
pub mod Spans
pub mod Parts
