pub mod Hashes
pub mod Laws
pub mod Opened
pub mod Rules
