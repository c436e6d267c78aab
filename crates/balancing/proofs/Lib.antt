pub mod Deepest
pub mod Inside
pub mod Splits
pub mod Forced
pub mod Walking
