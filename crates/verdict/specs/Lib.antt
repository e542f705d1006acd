-- The definitions of `verdict`, in the order in which to read them.
pub mod Verdicts
pub mod TextVerdicts
pub mod Judged
pub mod code
pub mod laws
