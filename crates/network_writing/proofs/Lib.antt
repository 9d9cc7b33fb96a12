pub mod Head
pub mod Whole
