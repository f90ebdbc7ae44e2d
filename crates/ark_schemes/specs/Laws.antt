-- The laws of commitments.
pub mod Commitments
