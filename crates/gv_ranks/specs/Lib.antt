pub mod Judged
pub mod Ranks
pub mod Sorted
