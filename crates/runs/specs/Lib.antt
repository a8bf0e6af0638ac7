pub mod Model
pub mod Runs
pub mod Calls
pub mod LastCall
