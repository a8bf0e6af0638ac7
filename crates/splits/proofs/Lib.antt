pub mod Lists
pub mod Parts
pub mod OnePoint
pub mod Once
