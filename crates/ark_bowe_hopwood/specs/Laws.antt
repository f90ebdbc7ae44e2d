-- The laws of Bowe-Hopwood hashes.
pub mod BoweHopwood
pub mod Nodes
