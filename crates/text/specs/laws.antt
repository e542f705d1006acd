-- The laws about the definitions of `text`.
pub mod TextLaws
pub mod ProgramLaws
