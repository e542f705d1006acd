-- Lemmas that several proofs of this crate share.
pub mod Listed
pub mod DateColumns
pub mod Truncates
