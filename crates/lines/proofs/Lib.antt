pub mod Digits
pub mod Arguments
