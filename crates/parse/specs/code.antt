-- What the structs of the code of `parse` mean, as the definitions have it.
pub mod Reading
pub mod Asking
pub mod SkimAnswers
pub mod FilterReads
