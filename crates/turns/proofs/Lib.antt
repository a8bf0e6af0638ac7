pub mod Checking
pub mod Undoing
pub mod Accepting
pub mod Trying
pub mod Answering
pub mod BothWays
pub mod Lines
