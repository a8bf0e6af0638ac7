pub mod States
pub mod After
