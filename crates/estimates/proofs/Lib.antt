pub mod Answering
pub mod Rounding
pub mod Finer
pub mod Border
pub mod Margin
