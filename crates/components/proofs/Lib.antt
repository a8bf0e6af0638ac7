pub mod Checked
pub mod Counting
pub mod Strides
pub mod Accepting
pub mod Stages
pub mod EveryStep
pub mod Sums
pub mod Answering
