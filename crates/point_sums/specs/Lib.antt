pub mod Weighted
pub mod Parts
