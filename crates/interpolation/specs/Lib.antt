pub mod Weighted
pub mod Hats
