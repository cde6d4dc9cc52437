pub mod World
pub mod Calls
pub mod Meaning
pub mod Machine
pub mod Examples
pub mod Opening
