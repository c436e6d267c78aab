pub mod Entries
pub mod Places
pub mod Codes
pub mod Runs
pub mod Axes
pub mod Steps
