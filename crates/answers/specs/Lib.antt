pub mod Returned
pub mod Answers
