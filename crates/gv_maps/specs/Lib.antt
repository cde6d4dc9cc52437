pub mod Joining
pub mod Keys
pub mod Prices
pub mod Reading
pub mod Rows
pub mod Writing
