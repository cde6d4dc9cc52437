pub mod Lists
pub mod Making
pub mod Parts
pub mod Reading
pub mod Rows
pub mod Texts
pub mod Throwing
