pub mod Nests
pub mod Phrases
