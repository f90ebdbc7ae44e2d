pub mod Elements
pub mod Frame
pub mod Hash
pub mod Nodes
pub mod Changed
pub mod Decided
