pub mod BlockHeader
pub mod Format
pub mod Record
pub mod Scan
pub mod Formatted
