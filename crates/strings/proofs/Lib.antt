-- Lemmas that the functions name.
pub mod Cut
