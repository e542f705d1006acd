-- The definitions of `text`, in the order in which to read them.
pub mod Text
pub mod Program
pub mod code
pub mod laws
