-- What the enums of the code of `columns` mean, and what it finds in a list, as the definitions have it.
pub mod ColumnAnswers
