-- The definitions of `projection`, in the order in which to read them.
pub mod Steps
pub mod NumberSteps
pub mod Lifting
pub mod ByteSteps
pub mod Projection
pub mod code
pub mod laws
