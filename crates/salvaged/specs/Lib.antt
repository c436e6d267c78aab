pub mod Nodes
pub mod Columns
pub mod Changes
pub mod Answers
