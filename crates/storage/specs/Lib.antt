pub mod Order
pub mod Lookup
pub mod File
pub mod Pieces
pub mod Names
pub mod Laws
