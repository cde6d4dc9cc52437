pub mod Accessors
pub mod Arith
pub mod Exceptions
pub mod Names
pub mod Plain
pub mod Refusal
