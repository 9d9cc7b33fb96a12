pub mod Halves
pub mod Values
