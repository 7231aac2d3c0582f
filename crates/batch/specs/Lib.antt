pub mod Batch
pub mod Laws
pub mod Cut
pub mod Scanned
pub mod Resumed
