pub mod Ranks
pub mod Mapping
pub mod Ordered
