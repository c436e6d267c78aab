pub mod Tests
pub mod Verdict
pub mod Finish
pub mod Promised
