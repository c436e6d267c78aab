pub mod Further
pub mod Built
pub mod Points
