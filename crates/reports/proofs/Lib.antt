pub mod Texts
pub mod Accepted
pub mod FirstBytes
pub mod Worked
