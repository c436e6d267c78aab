pub mod Lengths
pub mod Putting
