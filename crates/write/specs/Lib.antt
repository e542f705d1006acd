-- The definitions of `write`, in the order in which to read them.
pub mod Written
pub mod laws
