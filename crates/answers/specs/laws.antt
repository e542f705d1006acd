-- The laws about the definitions of `answers`.
pub mod SettledLaws
pub mod LeafLaws
pub mod ReadyLaws
pub mod StepsLaws
pub mod OneLiteralLaws
pub mod CollectedLaws
pub mod NumberLeafLaws
pub mod NumberSetLaws
pub mod BytesLeafLaws
pub mod BytesSetLaws
pub mod RowAnswerLaws
pub mod RowReadLaws
pub mod LengthLaws
