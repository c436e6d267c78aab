pub mod More
pub mod Steps
