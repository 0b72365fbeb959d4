pub mod SheetLaws
pub mod LineLaws
