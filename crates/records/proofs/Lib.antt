pub mod Cut
pub mod Counts
pub mod Values
