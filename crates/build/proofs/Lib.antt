pub mod Flags
pub mod Sorted
pub mod Growing
pub mod Columns
pub mod Answers
pub mod Returned
pub mod OnGrid
pub mod Listed
