pub mod Xor
pub mod Bits
