pub mod Chains
pub mod Exceptions
pub mod Known
pub mod Naming
pub mod Texts
