pub mod Reading
pub mod Agreeing
pub mod Walk
pub mod Steps
pub mod Whole
pub mod Refused
