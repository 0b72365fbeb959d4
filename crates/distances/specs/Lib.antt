pub mod Distance
pub mod Between
pub mod Shifts
pub mod Premise
