pub mod Known
pub mod Tops
pub mod Transforms
