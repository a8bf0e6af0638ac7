pub mod Refusals
pub mod Checks
