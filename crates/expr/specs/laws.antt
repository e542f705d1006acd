-- The laws about the definitions of `expr`.
pub mod PredicateLaws
pub mod HoldsLaws
pub mod EqualityLaws
pub mod OrderLaws
