-- The laws of canonical bytes, and of what implements a trait.
pub mod ConfigBytes
pub mod Instances
