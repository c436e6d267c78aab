pub mod Nodes
pub mod Judged
