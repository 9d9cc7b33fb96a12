pub mod Moments
pub mod LevelSums
pub mod Transposed
pub mod Loops
pub mod Summing
