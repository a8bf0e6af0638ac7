pub mod Summing
pub mod Compared
pub mod Following
pub mod Preceding
