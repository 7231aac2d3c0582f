pub mod Rows
pub mod Medium
pub mod Blocks
pub mod Collector
pub mod Batch
pub mod Storage
pub mod Sweep
pub mod Strict
