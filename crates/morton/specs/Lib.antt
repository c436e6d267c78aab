pub mod Keys
pub mod Anchors
pub mod Depth
pub mod Answers
