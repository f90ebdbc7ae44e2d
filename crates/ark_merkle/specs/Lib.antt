pub use Rattle.ark_base.specs.Outcome
pub mod LevelOrder
pub mod Binding
pub mod Update
pub mod MultiProof
pub mod Batch
pub mod Changed
