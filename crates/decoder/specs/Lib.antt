pub mod Search
pub mod Reading
pub mod Decoding
pub mod Calls
