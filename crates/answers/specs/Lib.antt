-- The definitions of `answers`, in the order in which to read them.
pub mod Kinds
pub mod Answers
pub mod code
pub mod laws
