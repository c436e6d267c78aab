pub mod Shorter
pub mod Children
pub mod Counted
pub mod Counting
