pub mod Answering
pub mod Undone
pub mod Deciding
pub mod Accepting
pub mod Worked
pub mod Parts
pub mod Heads
pub mod Lengths
