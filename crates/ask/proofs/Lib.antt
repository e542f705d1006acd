-- Lemmas that several proofs share.
pub mod TextTypes
pub mod PartAnswers
pub mod Numbers
