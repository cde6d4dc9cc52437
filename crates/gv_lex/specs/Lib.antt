pub mod Places
pub mod Tokens
pub mod Lexing
pub mod Steps
pub mod Laws
