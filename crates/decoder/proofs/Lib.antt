pub mod Laws
pub mod LayerLaws
pub mod HalvesLaws
pub mod BlockLaws
pub mod FrameLaws
pub mod DecodeLaws
