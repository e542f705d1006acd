-- The definitions of `filter`, in the order in which to read them.
pub mod FilterRoutines
pub mod FilterDemand
pub mod OlderFilterDemand
pub mod NotOfLeaf
pub mod code
pub mod laws
