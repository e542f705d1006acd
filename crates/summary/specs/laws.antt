-- The laws about the definitions of `summary`.
pub mod SummaryBytesLaws
pub mod SummaryLaws
pub mod EndLaws
pub mod EndPlaceLaws
