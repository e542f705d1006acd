-- The proofs of what `files` states.
pub mod VerdictParts
pub mod NumberFiles
pub mod TextFiles
pub mod FileDemandProof
pub mod FileWitnesses
pub mod JoinedEnds
pub mod NarrowerTexts
pub mod NarrowerFiles
pub mod UniqueRecords
pub mod PoolParts
pub mod PoolFiles
pub mod PoolBytes
pub mod PoolDemandProof
pub mod PoolWitnesses
pub mod OlderFileProof
pub mod OlderFileWitnesses
