pub mod Moved
pub mod Close
pub mod Sums
pub mod Order
pub mod Units
