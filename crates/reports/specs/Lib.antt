pub mod Report
pub mod Steps
