-- What the enums and the parts of the code of `summary` mean, as the definitions have it.
pub mod Fitting
pub mod SummaryAnswers
