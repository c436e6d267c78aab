pub mod Putting
pub mod Told
