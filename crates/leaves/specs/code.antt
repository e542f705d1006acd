-- What the enums and structs of the code of `leaves` mean, as the definitions have it.
pub mod SymbolAnswers
