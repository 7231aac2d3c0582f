pub mod Crossing
pub mod Values
pub mod Records
