pub mod Table
pub mod TableOf
