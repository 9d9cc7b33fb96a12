pub mod Lines
pub mod Tallies
pub mod Values
