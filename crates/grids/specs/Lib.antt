pub mod Grids
pub mod Ranges
pub mod Exits
pub mod Spans
