pub mod Fewer
pub mod Gathering
pub mod Ordering
