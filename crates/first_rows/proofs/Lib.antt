pub mod Filling
pub mod Numbers
