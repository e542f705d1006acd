-- What the enums and the arrays of the code of `numbers` mean, as the definitions have it.
pub mod Boundaries
