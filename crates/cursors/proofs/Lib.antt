pub mod Marks
pub mod Lowering
pub mod Dropping
pub mod Below
pub mod Across
pub mod Filling
pub mod Passing
