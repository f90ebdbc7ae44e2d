pub mod Polynomials
pub mod Congruences
pub mod Powers
pub mod Primes
pub mod Generators
pub mod Certificates
pub mod Roots
