pub mod Lists
pub mod Steps
