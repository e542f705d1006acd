-- What the code of `text` needs of its output.
pub mod Room
