pub mod Binomials
pub mod Counts
pub mod Totals
pub mod Starts
pub mod Layers
pub mod Checked
