pub mod Marked
pub mod Tries
