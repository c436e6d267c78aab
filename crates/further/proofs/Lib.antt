-- Examples use the definitions alone. More has what a further source changes, Rows what it leaves, Build both for the build; Built says when a tree is one.
pub mod Examples
pub mod Cells
pub mod Alone
pub mod More
pub mod Facts
pub mod Holder
pub mod Rows
pub mod Build
pub mod Built
pub mod Places
pub mod Held
pub mod Columns
pub mod Totals
pub mod Block
pub mod Indices
pub mod Ordered
pub mod Applied
