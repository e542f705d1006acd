-- The definitions of `ends`, in the order in which to read them.
pub mod Between
pub mod RuledOut
pub mod code
pub mod laws
