pub mod Directions
pub mod Steps
pub mod Answer
