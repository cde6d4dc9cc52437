pub mod Laws
pub mod Lines
pub mod Loads
pub mod Steps
