-- The laws of Baby Jubjub.
pub mod OrderPrime
pub mod Curve
pub mod Points
pub mod SamePoint
pub mod Base
