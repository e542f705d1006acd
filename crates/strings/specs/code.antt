-- What the enums and the arrays of the code of `strings` mean, as the definitions have it.
pub mod Prefixes
