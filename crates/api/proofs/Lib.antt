-- Lemmas that several proofs of this crate share.
pub mod HoldsReads
pub mod Buffers
pub mod ProjectReads
pub mod LiteralReads
