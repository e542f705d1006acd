-- Laws of the steps, the lowest first; an edit of a step breaks them.
pub mod OppositeLaws
pub mod MissingLaws
pub mod NumberLaws
pub mod LeafDemandLaws
pub mod OlderLeafDemandLaws
pub mod LiteralLaws
pub mod LandingLaws
