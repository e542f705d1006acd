-- The laws about the definitions of `sheet`.
pub mod RecordLaws
pub mod SheetLaws
pub mod RefusalLaws
pub mod PartLaws
pub mod WalkLaws
pub mod SheetStepLaws
pub mod ReadLaws
