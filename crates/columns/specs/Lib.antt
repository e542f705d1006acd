-- The definitions of `columns`, in the order in which to read them.
pub mod Columns
pub mod Cells
pub mod code
pub mod laws
