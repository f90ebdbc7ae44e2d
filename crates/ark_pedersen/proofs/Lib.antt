pub mod BitSums
pub mod ByteLists
pub mod Copies
pub mod Couples
pub mod DrawnLists
pub mod Halves
pub mod Iterates
pub mod PedersenSums
pub mod Shapes
pub mod Windows
pub mod Relations
mod SolvedRelations
pub mod BitPlaces
