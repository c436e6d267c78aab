pub mod Bytes
pub mod File
