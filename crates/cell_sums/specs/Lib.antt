pub mod Lifted
pub mod Kept
