pub mod Bytes
pub mod Entries
pub mod Round
pub mod Taken
