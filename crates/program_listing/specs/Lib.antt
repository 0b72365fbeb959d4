pub mod Listing
pub mod Parts
