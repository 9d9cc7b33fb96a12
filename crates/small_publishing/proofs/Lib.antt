pub mod Sizes
pub mod Tails
pub mod Written
