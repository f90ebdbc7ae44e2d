mod LabelTexts
pub mod Mixing
pub mod PedersenCommitments
pub mod Pieces
pub mod Texts
pub mod WordSums
pub mod GroupHashes
pub mod Doublings
