-- Lemmas that several proofs of this crate share.
pub mod Lifts
pub mod Turns
pub mod Sizes
