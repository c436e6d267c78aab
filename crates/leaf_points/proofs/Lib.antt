pub mod OneKey
pub mod Verdict
pub mod Starts
