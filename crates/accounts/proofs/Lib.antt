pub mod Bytes
pub mod Slots
pub mod Weights
pub mod Opening
