pub mod SignedLaws
pub mod LlrLaws
pub mod FrameLaws
pub mod LostLaws
pub mod NoiselessLaws
pub mod DemapLaws
