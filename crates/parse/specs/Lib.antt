-- The definitions of `parse`, in the order in which to read them.
pub mod FilterText
pub mod code
pub mod laws
