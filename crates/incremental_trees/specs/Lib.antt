pub mod Incremental
pub mod KeptPaths
pub mod Laws
pub mod Nodes
