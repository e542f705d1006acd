-- The definitions of `leaves`, in the order in which to read them.
pub mod Fitting
pub mod Symbols
pub mod TextIs
pub mod code
pub mod laws
