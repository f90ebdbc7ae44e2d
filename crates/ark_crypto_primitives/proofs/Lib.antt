pub mod PathPairs
pub mod ConflictLemmas
pub mod DigestBytes
pub mod PedersenConflicts
pub mod SegmentConflicts
pub mod Verdicts
pub mod NodeLemmas
pub mod PointConflicts
