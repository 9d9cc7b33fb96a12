pub mod Report
pub mod Wrote
pub mod Prepared
