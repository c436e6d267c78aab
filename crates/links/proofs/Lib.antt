pub mod Links
pub mod Walk
pub mod Children
pub mod Readers
