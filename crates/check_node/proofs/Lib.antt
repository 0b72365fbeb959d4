pub mod CopyLaws
pub mod DifferenceLaws
pub mod StepLaws
pub mod LeastLaws
