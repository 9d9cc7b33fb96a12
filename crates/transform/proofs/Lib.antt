pub mod Level
pub mod Lengths
pub mod LevelValues
pub mod AllLevels
pub mod Loops
pub mod Wholes
pub mod Whole
