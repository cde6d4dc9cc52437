pub mod Circles
pub mod Jumps
