pub mod Program
pub mod Answers
pub mod Judged
pub mod Top
