pub mod Code
pub mod Sizes
