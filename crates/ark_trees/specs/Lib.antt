pub mod Laws
pub mod Rfc6962
pub mod Arrays
pub mod Toy
