pub mod Checks
pub mod Texts
pub mod Derived
