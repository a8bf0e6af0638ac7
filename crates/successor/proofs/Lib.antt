pub mod Indices
pub mod Reached
pub mod Onward
pub mod OnFace
pub mod Sorts
pub mod Calls
