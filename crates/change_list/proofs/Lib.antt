pub mod Added
pub mod Coded
pub mod Listed
