pub mod Lists
pub mod Referring
pub mod Twins
pub mod Notes
pub mod Slots
pub mod Sweep
pub mod Laws
