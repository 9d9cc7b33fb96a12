pub mod Weighted
pub mod Blocks
pub mod Scattered
