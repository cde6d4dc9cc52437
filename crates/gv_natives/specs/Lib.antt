pub mod Table
pub mod BuiltIn
