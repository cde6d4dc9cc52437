pub mod Nodes
pub mod Layers
pub mod Weights
