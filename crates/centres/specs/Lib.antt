pub mod Centres
pub mod Agreement
