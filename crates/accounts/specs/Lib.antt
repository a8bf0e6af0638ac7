pub mod Accounts
pub mod Steps
pub mod Calls
