-- The definitions of `transform`, in the order in which to read them.
pub mod Floor
pub mod Count
pub mod Gregorian
pub mod Calendar
pub mod YearGroups
pub mod Temporal
pub mod Truncate
pub mod code
pub mod laws
