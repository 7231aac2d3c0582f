pub mod Laws
pub mod Steps
pub mod Stored
pub mod Units
pub mod Strict
