pub mod Code
pub mod PublicKey
pub mod Publish
pub mod Lock
