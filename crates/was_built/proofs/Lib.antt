pub mod Inside
pub mod Judged
