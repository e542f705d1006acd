-- The laws about the definitions of `partition`.
pub mod PartitionLaws
pub mod BytesPartitionLaws
pub mod PartitionRowLaws
