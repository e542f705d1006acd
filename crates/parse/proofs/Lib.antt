-- Lemmas that several proofs of this crate share.
pub mod Values
pub mod Skims
pub mod Aheads
pub mod Loops
pub mod Singles
