-- The laws about the definitions of `filter`.
pub mod FilterAnswerLaws
