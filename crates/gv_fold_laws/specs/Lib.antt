pub mod Methods
pub mod Runs
