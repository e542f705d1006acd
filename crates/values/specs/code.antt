-- What the enums and the arrays of the code of `values` mean, as the definitions have it.
pub mod ByteTypes
pub mod Lent
pub mod Utf8Rests
pub mod Places
