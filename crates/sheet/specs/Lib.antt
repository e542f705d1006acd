-- The definitions of `sheet`, in the order in which to read them.
pub mod Records
pub mod Sheets
pub mod Values
pub mod code
pub mod laws
