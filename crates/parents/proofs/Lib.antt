pub mod Reducing
pub mod Stepped
pub mod Accepted
