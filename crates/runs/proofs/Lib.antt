pub mod Model
pub mod Calls
pub mod Demand3
pub mod LastCall
pub mod Checked
pub mod Appending
pub mod Reporting
