-- Lemmas that several proofs of this crate share.
pub mod Names
pub mod Entries
pub mod CellReads
