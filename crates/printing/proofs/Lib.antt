pub mod Rooms
pub mod Longest
