-- The definitions of `summary`, in the order in which to read them.
pub mod Summaries
pub mod EndValues
pub mod code
pub mod laws
