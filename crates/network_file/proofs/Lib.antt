pub mod Digits
pub mod Files
