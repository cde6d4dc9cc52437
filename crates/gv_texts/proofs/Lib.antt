pub mod Backward
mod Weights
