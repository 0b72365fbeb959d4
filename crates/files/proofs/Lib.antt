pub mod PartLaws
pub mod PrintedLaws
