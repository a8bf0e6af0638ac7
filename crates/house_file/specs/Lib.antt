pub mod Files
pub mod Steps
pub mod Written
