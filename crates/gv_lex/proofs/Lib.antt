pub mod Told
pub mod Putting
pub mod Turning
pub mod Paths
pub mod Order
pub mod Alike
