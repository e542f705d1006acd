-- What the code of `sets` collects, and what its arrays mean.
pub mod Sets
pub mod StringSets
