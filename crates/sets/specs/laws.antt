-- The laws about the definitions of `sets`.
pub mod SetLaws
pub mod MemberLaws
pub mod FilledLaws
pub mod TransformedLaws
