pub mod Reply
pub mod Sources
pub mod Takes
pub mod Values
