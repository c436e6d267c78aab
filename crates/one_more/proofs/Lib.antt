pub mod Longer
pub mod Laid
pub mod Judging
pub mod Starting
pub mod Ending
pub mod Promised
