pub mod Tried
pub mod Nodes
pub mod Decision
pub mod Mode
pub mod Decoder
pub mod Totals
pub mod Claims
pub mod Halves
