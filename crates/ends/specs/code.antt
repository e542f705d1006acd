-- What the code of `ends` answers, as the definitions have it.
pub mod EndAnswers
