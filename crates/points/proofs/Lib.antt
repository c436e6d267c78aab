pub mod Checked
pub mod Sides
pub mod Nesting
pub mod Answers
pub mod Examples
