pub mod JoinedTrees
pub mod KeptTree
