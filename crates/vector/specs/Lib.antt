pub mod Vector
pub mod Frame
pub mod Part
