pub mod Flat
pub mod Joins
pub mod Laws
pub mod Sums
pub mod Texts
