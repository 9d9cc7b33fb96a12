pub mod Network
pub mod Tables
