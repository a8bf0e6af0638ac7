pub mod Rates
pub mod Checking
pub mod Counting
pub mod FiveBytes
pub mod Together
pub mod Held
pub mod Filling
pub mod Short
