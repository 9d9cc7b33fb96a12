pub mod Shapes
pub mod Keys
pub mod Answers
pub mod Parts
pub mod Kept
pub mod Bench
