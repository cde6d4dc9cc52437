pub mod Questions
pub mod Texts
pub mod Todo
