pub mod Decimals
pub mod Listing
