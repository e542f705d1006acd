-- What the enums and structs of the code of `tokens` mean, as the definitions have it.
pub mod TokenAnswers
