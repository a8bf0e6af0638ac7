pub mod Binomial
pub mod Count
pub mod Point
pub mod Number
pub mod Inverse
pub mod Order
pub mod Parent
