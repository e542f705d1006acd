-- What the structs and the arrays of the code of `sheet` mean, as the definitions have it.
pub mod Placed
pub mod ReadAnswers
pub mod Contents
pub mod SheetAnswers
