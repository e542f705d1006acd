-- What the enums and the arrays of the code of `transform` mean, as the definitions have it.
pub mod TransformAnswers
