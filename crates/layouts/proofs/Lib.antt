pub mod Smaller
pub mod Marks
pub mod Found
pub mod Laid
pub mod LastLevels
pub mod Upper
