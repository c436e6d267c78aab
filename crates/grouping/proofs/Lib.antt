pub mod Values
pub mod Blocks
pub mod Arranged
pub mod Counting
pub mod Placing
pub mod Passing
