pub mod Sums
pub mod Tests
pub mod Cases
pub mod Summed
pub mod Shifts
pub mod FirstFailing
pub mod Made
pub mod Changes
