pub mod Basis
pub mod LevelBases
pub mod Blocks
pub mod Twists
pub mod TwoPowers
pub mod Loops
pub mod Halves
pub mod Filled
