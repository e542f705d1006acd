-- What the code of `partition` answers and takes, as the definitions have it.
pub mod PartitionAnswers
