-- The laws about the definitions of `pool`.
pub mod PoolLaws
pub mod PoolAnswerLaws
