pub mod Grid
pub mod Turns
pub mod Sets
pub mod Work
