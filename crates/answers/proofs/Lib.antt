-- Lemmas that several proofs share.
pub mod ColumnKinds
pub mod OtherTransforms
pub mod NumberAnswers
pub mod BytesAnswers
