pub mod Turns
pub mod Strict
