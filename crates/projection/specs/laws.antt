-- The laws about the definitions of `projection`.
pub mod LeafDemand
pub mod RowLaws
pub mod StepLaws
pub mod EqualLaws
pub mod LiftingLaws
pub mod MissingLaws
pub mod NumberLaws
pub mod ProjectionLaws
pub mod NumberRowLaws
pub mod ByteLaws
pub mod SoundLaws
pub mod OlderLeafDemand
pub mod LiteralLaws
