pub mod Sheet
pub mod Frame
