pub mod Results
pub mod Skips
pub mod Steps
