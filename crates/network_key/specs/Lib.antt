pub mod Files
pub mod Converting
