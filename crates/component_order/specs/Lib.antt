pub mod InOrder
pub mod Steps
