pub mod MaskLaws
pub mod CutLaws
pub mod SetLaws
pub mod SumLaws
