pub mod Calls
pub mod Laws
pub mod Moves
pub mod Life
