-- Lemmas that the proofs share.
pub mod SummaryReads
pub mod OrderedEnds
