pub mod Passing
pub mod Results
