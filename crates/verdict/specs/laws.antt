-- The laws about the definitions of `verdict`.
pub mod OperatorVerdictLaws
pub mod VerdictLaws
