pub mod Levels
pub mod Twist
