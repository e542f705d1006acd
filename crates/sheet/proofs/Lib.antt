-- Lemmas that several proofs of this crate share.
pub mod ColumnArms
pub mod SheetReads
pub mod ValueReads
pub mod Walks
pub mod Zeros
pub mod Turns
