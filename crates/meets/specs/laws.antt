-- The laws about the definitions of `meets`, and about equal byte strings.
pub mod TestedLaws
pub mod HeldLaws
pub mod LeafLaws
pub mod EqualBytesLaws
