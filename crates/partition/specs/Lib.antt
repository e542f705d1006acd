-- The definitions of `partition`, in the order in which to read them.
pub mod ResultType
pub mod Partition
pub mod code
pub mod laws
