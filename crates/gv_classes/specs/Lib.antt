pub mod BuiltIn
pub mod Classes
