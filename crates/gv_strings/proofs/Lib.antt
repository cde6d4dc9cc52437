pub mod Made
pub mod Places
pub mod Said
pub mod Sizes
pub mod Steps
