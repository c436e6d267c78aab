-- Demand3 has the theorems; Examples and Applied show that they speak of something.
pub mod Closeness
pub mod RowTests
pub mod Meetings
pub mod Bound
pub mod Around
pub mod Literal
pub mod Agree
pub mod Demand3
pub mod NearWork
pub mod Examples
pub mod Applied
