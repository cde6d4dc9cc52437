pub mod Members
pub mod Parsed
