pub mod Rates
pub mod Steps
pub mod Held
