pub mod Keyed
pub mod RefusedDigest
pub mod Refusing
pub mod Weights
