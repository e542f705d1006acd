-- The laws about the definitions of `leaves`.
pub mod SymbolLaws
pub mod NamedLeafLaws
pub mod TextLaws
