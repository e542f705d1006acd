-- Lemmas that several proofs of this crate share.
pub mod CountedOff
pub mod Dates
pub mod Ends
pub mod Groups
pub mod Moments
pub mod Months
pub mod Passed
pub mod Tables
pub mod Truncating
