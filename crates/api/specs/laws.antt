-- The laws about the definitions of `api`.
pub mod HoldsTestLaws
