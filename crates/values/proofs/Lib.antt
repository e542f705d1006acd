-- Lemmas that several proofs of this crate share.
pub mod Ascii
pub mod Held
pub mod TwosComplement
