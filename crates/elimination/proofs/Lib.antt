pub mod Flat
pub mod Pivots
pub mod Clearing
pub mod Stages
pub mod Columns
pub mod Sizes
