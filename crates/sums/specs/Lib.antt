pub mod Adding
pub mod Sums
pub mod Right
pub mod Arrangement
pub mod Tells
