pub mod Built
pub mod Forward
pub mod Pieces
