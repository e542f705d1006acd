-- Examples and laws of `judged`, which an edit of it breaks.
pub mod JudgedExamples
pub mod JudgedLaws
pub mod SheetChecks
