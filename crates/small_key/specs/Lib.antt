pub mod Inverse
pub mod Sums
