pub mod Walk
pub mod Owners
pub mod Below
