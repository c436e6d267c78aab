pub mod Outcomes
pub mod Layout
