pub mod LowLaws
pub mod SwapLaws
pub mod LoopLaws
