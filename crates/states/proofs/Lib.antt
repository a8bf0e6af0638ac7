pub mod Bits
pub mod Checked
pub mod Found
