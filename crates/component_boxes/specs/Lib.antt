pub mod Order
pub mod Boxes
pub mod Stages
