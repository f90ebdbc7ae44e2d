-- The laws of Pedersen hashes.
pub mod Images
pub mod Pedersen
