pub mod Refusals
pub mod RoundTrip
pub mod Parts
