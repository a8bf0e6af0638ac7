pub mod Numbered
pub mod Neighbours
