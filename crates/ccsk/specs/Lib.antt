pub mod Chips
pub mod Spread
