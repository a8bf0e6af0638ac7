pub mod Moves
pub mod Beside
pub mod ZeroBorder
pub mod Instance
