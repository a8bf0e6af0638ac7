pub mod Estimates
pub mod Negated
pub mod Finer
pub mod Margin
