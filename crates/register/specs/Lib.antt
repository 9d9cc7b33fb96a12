pub mod Registered
pub mod Across
