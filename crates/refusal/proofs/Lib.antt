pub mod Telling
pub mod Most
pub mod Chain
pub mod Left
