pub mod Arrays
pub mod Toy
