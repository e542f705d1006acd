-- The definitions of `api`, in the order in which to read them.
pub mod HoldsTest
pub mod Routines
pub mod Demand3
pub mod OlderDemand
pub mod UnknownAlone
pub mod Requests
pub mod laws
