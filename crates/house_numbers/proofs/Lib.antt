pub mod Gathering
pub mod CheckedNumbers
pub mod Filing
