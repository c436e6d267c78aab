pub mod Masks
pub mod Around
pub mod Parting
