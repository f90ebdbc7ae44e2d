pub mod BoweHopwood
pub mod Laws
pub use Rattle.ark_base.specs.Outcome
pub mod Binding
pub mod BitHashes
pub mod Nodes
