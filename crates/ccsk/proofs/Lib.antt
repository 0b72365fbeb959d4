pub mod ChipLaws
pub mod BaseLaws
pub mod DistanceLaws
pub mod SpreadLaws
