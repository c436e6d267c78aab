pub mod Pasted
pub mod Numbers
