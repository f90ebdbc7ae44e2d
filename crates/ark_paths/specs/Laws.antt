-- The laws of the canonical bytes of paths.
pub mod Path
pub mod MultiPath
pub mod ByNumbers
pub mod Pair
