pub mod Known
pub mod Phases
pub mod Units
