-- Lemmas that several proofs share.
pub mod Scans
pub mod BetweenArms
pub mod TextArms
