pub mod Calls
pub mod Inside
pub mod Prepared
pub mod Layouts
