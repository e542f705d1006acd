-- The definitions of `grammar`, in the order in which to read them.
pub mod Filters
pub mod Grammar
pub mod Parser
pub mod code
pub mod laws
