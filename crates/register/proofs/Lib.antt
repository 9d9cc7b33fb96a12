pub mod Answers
pub mod Across
pub mod Loops
