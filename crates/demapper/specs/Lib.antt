pub mod Samples
pub mod Demap
pub mod Lost
pub mod Noiseless
pub mod Parts
