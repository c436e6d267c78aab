pub mod Frames
pub mod Stacks
pub mod Near
pub mod Roots
pub mod Nodes
pub mod Putting
pub mod Marking
