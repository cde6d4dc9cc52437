pub mod Entries
pub mod Heap
pub mod Keys
pub mod Kinds
pub mod Prices
pub mod Ranges
