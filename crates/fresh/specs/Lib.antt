pub mod Units
pub mod Fresh
pub mod Writes
pub mod Scans
