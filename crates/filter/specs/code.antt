-- What the code of `filter` answers, as the definitions have it.
pub mod FilterAnswers
