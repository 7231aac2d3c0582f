pub mod Turns
pub mod Records
pub mod Laws
pub mod Cut
pub mod Scanned
pub mod Resumed
pub mod Instance
pub mod Strict
