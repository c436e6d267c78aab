pub mod Examples
pub mod Put
pub mod Kept
pub mod Formed
pub mod Same
pub mod Again
pub mod Listed
