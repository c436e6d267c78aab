pub mod Outcome
pub mod Numbers
pub mod Chain
pub mod Left
