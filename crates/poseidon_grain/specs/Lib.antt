pub mod Grain
pub mod Constants
pub mod Defaults
pub mod Poseidon2
pub mod Permuting
