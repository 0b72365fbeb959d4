pub mod ColumnLaws
pub mod LineLaws
pub mod LinesLaws
pub mod WriteLaws
