-- The laws about the definitions of `columns`.
pub mod EachLaws
pub mod NameLaws
pub mod ColumnLaws
pub mod ListedColumnLaws
pub mod CellLaws
