-- What the enums and the arrays of the code of `projection` mean, as the definitions have it.
pub mod OneLiteral
