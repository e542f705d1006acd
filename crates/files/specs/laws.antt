-- The laws about the definitions of `files`.
pub mod TestSummaryLaws
