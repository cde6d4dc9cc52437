pub mod Gathering
pub mod Groups
pub mod Rows
