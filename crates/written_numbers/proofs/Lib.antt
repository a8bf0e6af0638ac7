pub mod FiledForm
pub mod Sizes
pub mod Groups
