pub mod Codes
pub mod Runs
pub mod Anchors
pub mod Masks
