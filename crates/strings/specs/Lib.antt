-- `strings` has no definitions of its own.
pub mod code
