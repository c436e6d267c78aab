pub mod Points
pub mod Outcomes
pub mod Layout
