-- The laws about the definitions of `write`.
pub mod RoundTripLaws
pub mod WrittenLaws
pub mod WriteLaws
pub mod LiteralWriteLaws
pub mod AnswerSheetLaws
pub mod FirstLiteralsLaws
