pub mod Blake2s
pub mod CommitmentBinding
pub mod Commitments
pub mod GroupHash
pub mod Hashers
pub mod Laws
pub mod PedersenCommitments
pub use Rattle.ark_base.specs.Outcome
