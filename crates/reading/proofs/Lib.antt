pub mod Refusals
pub mod Answered
