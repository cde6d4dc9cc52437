pub mod Cells
pub mod Left
pub mod Picks
pub mod Limit
