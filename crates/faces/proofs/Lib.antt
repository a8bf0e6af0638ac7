pub mod Ranks
pub mod Packing
pub mod Numbering
pub mod Ordering
pub mod Beside
pub mod InFace
pub mod Row
pub mod Worked
