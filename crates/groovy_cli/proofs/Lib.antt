pub mod Promises
pub mod Saying
