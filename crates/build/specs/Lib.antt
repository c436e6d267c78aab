pub mod Asked
pub mod Outcomes
pub mod Listed
pub mod Summing
pub mod Steps
pub mod OnGrid
