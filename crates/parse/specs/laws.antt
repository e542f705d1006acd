-- The laws about the definitions of `parse`.
pub mod ReadingLaws
pub mod SingleReadLaws
pub mod BracketReadLaws
pub mod AskingLaws
pub mod FilterMeansLaws
