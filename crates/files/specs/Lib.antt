-- The definitions of `files`, in the order in which to read them.
pub mod TestSummary
pub mod FileDemand
pub mod OlderFileDemand
pub mod PoolDemand
pub mod FileRequests
pub mod laws
