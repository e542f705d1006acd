-- The definitions of `values`, in the order in which to read them.
pub mod Outcomes
pub mod Numbered
pub mod Types
pub mod Transforms
pub mod Words
pub mod Characters
pub mod Utf8
pub mod Order
pub mod SomeEvery
pub mod Ascending
pub mod code
pub mod laws
