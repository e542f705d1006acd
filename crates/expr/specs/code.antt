-- What the enums and the arrays of the code of `expr` mean, as the definitions have it.
pub mod OperatorAnswers
