pub mod Transform
pub mod Encode
pub mod Message
pub mod Tree
pub mod Halves
pub mod Parts
pub mod Join
