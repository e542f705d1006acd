-- The proof of demand 3 over bytes: that the demand is about something, what it rests on, and the theorem; that 7 is Unknown's alone; and the proof for files of
-- older writers.
pub mod RecordBytes
pub mod Witnesses
pub mod ReadBackLaws
pub mod KindLaws
pub mod KindRowLaws
pub mod NumberKindLaws
pub mod ExactLaws
pub mod BytesKindLaws
pub mod Demand3Proof
pub mod BufferLaws
pub mod StepRefusalLaws
pub mod UnknownProof
pub mod FilingLaws
pub mod OlderProof
pub mod OlderWitnesses
