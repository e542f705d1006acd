-- The definitions of `ask`, in the order in which to read them.
pub mod LeafAnswers
pub mod code
pub mod laws
