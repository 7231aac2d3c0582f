pub mod Street
