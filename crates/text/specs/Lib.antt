pub mod Characters
pub mod Digits
pub mod Listing
pub mod ByLevel
