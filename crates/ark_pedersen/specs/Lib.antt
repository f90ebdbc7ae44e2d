pub mod Laws
pub mod Pedersen
pub use Rattle.ark_base.specs.Outcome
pub mod Binding
pub mod BitHashes
