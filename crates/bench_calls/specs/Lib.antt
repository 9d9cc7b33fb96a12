pub mod Chain
pub mod Weights
