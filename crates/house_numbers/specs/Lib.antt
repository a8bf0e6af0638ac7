pub mod Reading
pub mod Numbers
pub mod Steps
