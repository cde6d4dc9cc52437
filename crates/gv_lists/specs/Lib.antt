pub mod Joining
pub mod Reading
pub mod Rows
pub mod Throwing
pub mod Writing
