-- Weights has the exchange of sums, Together its use for readings, Right and Flat the check of lists handed in, Arrangement that of an order column.
pub mod Examples
pub mod Tells
pub mod Adding
pub mod Weights
pub mod Arrangement
pub mod Parts
pub mod Facts
pub mod Lines
pub mod Counts
pub mod Right
pub mod Together
pub mod Flat
pub mod Arranged
pub mod Spans
pub mod Applied
