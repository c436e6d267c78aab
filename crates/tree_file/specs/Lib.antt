pub mod Bytes
pub mod Contents
pub mod Written
pub mod Trailer
pub mod Checks
