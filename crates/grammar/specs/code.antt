-- What code that reads filters does, as the definitions have it.
pub mod Skimming
