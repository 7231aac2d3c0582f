pub mod Agree
pub mod Moment
