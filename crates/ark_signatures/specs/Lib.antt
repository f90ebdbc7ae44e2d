pub mod ElGamal
pub mod Schnorr
pub mod SecretShares
