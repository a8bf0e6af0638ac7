pub mod Counting
pub mod Cutting
pub mod Stands
pub mod Mixing
pub mod Sweeping
pub mod Calls
pub mod Loading
