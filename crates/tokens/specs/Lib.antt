-- The definitions of `tokens`, in the order in which to read them.
pub mod Tokens
pub mod Spelled
pub mod code
pub mod laws
