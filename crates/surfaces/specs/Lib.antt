pub mod Weights
pub mod Surface
pub mod Lines
pub mod Border
pub mod Margin
