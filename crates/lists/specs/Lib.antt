pub mod Written
pub mod Halves
