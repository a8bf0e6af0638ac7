pub mod Handing
pub mod Kept
pub mod Zero
pub mod Flag
