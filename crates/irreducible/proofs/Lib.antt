pub mod Rows
pub mod Modulo
pub mod Products
pub mod PowerRows
pub mod Elimination
pub mod Verdict
pub mod Exchange
