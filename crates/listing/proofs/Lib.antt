pub mod LeastLaws
pub mod LineLaws
pub mod OtherLaws
