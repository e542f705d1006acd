-- The laws about the definitions of `ask`.
pub mod PartAnswerLaws
pub mod AskLaws
