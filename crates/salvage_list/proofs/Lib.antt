pub mod Order
pub mod Changes
