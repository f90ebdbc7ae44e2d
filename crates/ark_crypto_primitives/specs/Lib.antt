pub mod Words
pub mod Conflicts
pub mod TreeRelations
pub mod NodeConflicts
