pub mod Elements
pub mod Nests
pub mod Parsed
