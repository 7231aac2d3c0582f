pub mod Theorems
pub mod Never
pub mod Moves
pub mod Life
