pub mod Above
pub mod Mapping
pub mod Quotients
pub mod Checking
pub mod Answering
pub mod LoadUnload
pub mod Divisible
