mod Arity
mod Commas
mod Steps
