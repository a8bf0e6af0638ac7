pub mod Eight
pub mod PointTest
pub mod MarkTest
pub mod Tested
pub mod Passed
pub mod Handed
