pub mod Half
pub mod Total
pub mod Floor
pub mod Nearest
