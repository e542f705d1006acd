-- What the code of `ask` answers, as the definitions have it.
pub mod Askings
