pub mod Products
pub mod Weighted
pub mod Partly
pub mod Injective
pub mod Through
