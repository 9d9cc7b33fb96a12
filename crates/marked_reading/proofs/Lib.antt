pub mod Cleared
pub mod Readings
pub mod Refusals
pub mod Answered
