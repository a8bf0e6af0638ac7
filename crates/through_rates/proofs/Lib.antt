pub mod ThroughRates
pub mod EstimateIsRate
pub mod OneLine
pub mod LineValues
