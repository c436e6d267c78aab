pub mod Lengths
pub mod Ancestors
pub mod Leaves
pub mod Tour
pub mod Outcomes
