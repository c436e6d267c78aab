pub mod Steps
pub mod Along
pub mod Tied
pub mod Laws
pub mod ProvedTable
