pub mod Wholes
pub mod Values
pub mod Spans
pub mod Examples
