pub mod KeyFiles
pub mod Reading
pub mod Marked
