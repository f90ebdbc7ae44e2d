pub mod Reached
pub mod ChangedRows
pub mod LastLeaves
pub mod ChangedTrees
pub mod Batches
pub mod EachIndex
pub mod ChangeRuns
pub mod Bounds
pub mod Changes
mod LentChanges
pub mod LevelOrder
pub mod BuildRows
pub mod PileRuns
pub mod TreeChanges
pub mod Puts
pub mod TreeReads
pub mod StrictOwn
pub mod MultiCommon
pub mod MultiOwn
pub mod Compares
pub mod NewWays
mod ListParts
pub mod HashedCouples
