-- The laws about the definitions of `tokens`.
pub mod RunLaws
pub mod DecimalLaws
pub mod LongDecimalLaws
pub mod TokenLaws
pub mod TokenBeginLaws
pub mod ClosingLaws
pub mod SpelledLaws
