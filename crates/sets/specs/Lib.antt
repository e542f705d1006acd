-- `sets` has no definitions of its own.
pub mod code
pub mod laws
