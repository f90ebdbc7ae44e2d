pub mod Receipts
pub mod Signing
pub mod Witnessing
pub mod KeyQuorums
pub mod Adding
