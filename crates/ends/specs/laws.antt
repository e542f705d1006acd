-- The laws about the definitions of `ends`.
pub mod BetweenLaws
pub mod PigeonholeLaws
pub mod RuledOutLaws
