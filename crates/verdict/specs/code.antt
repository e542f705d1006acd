-- What the code of `verdict` goes by, as the definitions have it.
pub mod VerdictAnswers
