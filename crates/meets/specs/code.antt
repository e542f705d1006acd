-- What the code of `meets` knows of a sheet, as the definitions have it.
pub mod Leaves
pub mod HeldAnswers
