pub mod Forms
pub mod Forward
pub mod Right
