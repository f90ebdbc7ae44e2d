pub mod TreeHashes
