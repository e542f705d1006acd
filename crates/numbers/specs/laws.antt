-- The laws about the definitions of `numbers`.
pub mod BoundaryLaws
