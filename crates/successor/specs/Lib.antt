pub mod Successor
pub mod Steps
