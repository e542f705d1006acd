-- The laws about the definitions of `grammar`.
pub mod ChainLaws
pub mod FilterLaws
