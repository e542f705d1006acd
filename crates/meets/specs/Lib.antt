-- The definitions of `meets`, in the order in which to read them.
pub mod Tested
pub mod code
pub mod laws
