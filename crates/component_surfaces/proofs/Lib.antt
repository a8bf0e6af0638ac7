pub mod ThroughGrid
