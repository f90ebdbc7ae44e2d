pub mod Cuts
pub mod Signatures
pub mod Outcomes
pub mod ReadBack
pub mod Lacking
pub mod WrittenNotes
pub mod Tests
pub mod KeyTexts
pub mod CheckpointTexts
pub mod Cosigning
pub mod Counted
pub mod Opened
pub mod Joined
pub mod Known
mod Pieces
mod Listed
pub mod SymbolGroups
