pub mod MapLaws
pub mod CodeLaws
pub mod SizeLaws
