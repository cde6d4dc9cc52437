mod Bounds
mod Cut
mod Decided
pub mod Joined
