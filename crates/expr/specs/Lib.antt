-- The definitions of `expr`, in the order in which to read them.
pub mod Operators
pub mod Predicates
pub mod Holds
pub mod code
pub mod laws
