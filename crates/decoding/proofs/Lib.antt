pub mod Gathered
pub mod Scan
pub mod Packed
pub mod Located
pub mod PowerSums
pub mod Divisors
pub mod Explained
