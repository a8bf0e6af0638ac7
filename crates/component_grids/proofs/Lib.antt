pub mod Places
pub mod Levels
pub mod Numbering
pub mod Instance
pub mod Beside
