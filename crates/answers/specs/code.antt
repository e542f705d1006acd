-- What the enums and the arrays of the code of `answers` mean, as the definitions have it.
pub mod Leaves
pub mod Rows
pub mod Settled
