pub mod Once
pub mod Sums
pub mod Count
pub mod Reversed
pub mod Back
pub mod Parts
