pub mod CodeSheet
pub mod FrameLine
pub mod Parts
