pub mod Mended
