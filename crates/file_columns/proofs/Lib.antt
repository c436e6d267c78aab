pub mod Sectioned
