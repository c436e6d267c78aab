pub mod Floors
pub mod Extents
