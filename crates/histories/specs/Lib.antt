pub mod Histories
pub mod Balance
pub mod Offices
