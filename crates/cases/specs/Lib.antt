-- The definitions of `cases`, in the order in which to read them.
pub mod Starred
