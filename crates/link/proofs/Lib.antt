pub mod Noiseless
pub mod Premise
pub mod Accepted
pub mod DecoderRows
pub mod Table
