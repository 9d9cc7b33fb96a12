pub mod Added
pub mod Unmarked
pub mod Sound
pub mod Twice
pub mod Plain
