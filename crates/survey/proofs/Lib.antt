pub mod Numbers
pub mod Columns
pub mod Surveys
pub mod Examples
