pub mod Distinct
pub mod Laws
