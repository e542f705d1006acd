-- The definitions of `pool`, in the order in which to read them.
pub mod Pooling
pub mod Handed
pub mod laws
