pub mod FactorSearch
pub mod Divides
pub mod Examples
