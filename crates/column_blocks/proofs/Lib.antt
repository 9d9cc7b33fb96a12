pub mod BlockRows
pub mod Columns
