pub mod Behind
pub mod Rests
pub mod Tables
