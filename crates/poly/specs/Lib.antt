pub mod Polynomials
pub mod Register
pub mod Parts
