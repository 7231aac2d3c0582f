pub mod Bounds
pub mod Buffers
pub mod Counts
pub mod Spending
