pub mod Written
pub mod Correct
pub mod Ending
