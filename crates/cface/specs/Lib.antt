pub mod Objects
pub mod Writers
