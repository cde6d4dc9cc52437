pub mod Groups
pub mod Making
