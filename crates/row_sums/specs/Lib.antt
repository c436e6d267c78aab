pub mod Readings
pub mod Climb
