pub mod Writer
pub mod Steps
pub mod Units
