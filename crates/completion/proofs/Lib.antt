pub mod Marking
pub mod Completing
pub mod Permutation
