pub mod Settled
pub mod Images
pub mod ByInverse
pub mod Sums
pub mod Products
