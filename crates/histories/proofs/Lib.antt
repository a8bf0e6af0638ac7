pub mod Verdicts
pub mod Possible
pub mod Kept
pub mod Balance
pub mod ClosedAgain
pub mod Reached
pub mod Isolation
