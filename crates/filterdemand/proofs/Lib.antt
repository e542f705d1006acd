-- The proof that filters lose nothing: that it is about something, what it rests on, and the theorem; and that 7 is Unknown's alone.
pub mod FilterWitnesses
pub mod OneLeafWitnesses
pub mod JoinedLaws
pub mod FoundLaws
pub mod FittedLaws
pub mod ListedCells
pub mod LeafSheetLaws
pub mod LeafKindLaws
pub mod BothKindsLaws
pub mod LeafAnswerLaws
pub mod FilterDemandProof
pub mod FilterUnknownProof
pub mod NotOfLeafProof
pub mod OlderFilterWitnesses
