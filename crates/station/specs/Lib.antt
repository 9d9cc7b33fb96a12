pub mod Replies
pub mod Chosen
