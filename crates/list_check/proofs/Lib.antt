pub mod Starts
pub mod Nodes
pub mod Riding
pub mod Path
pub mod Judged
