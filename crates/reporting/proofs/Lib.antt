pub mod Checks
pub mod Found
pub mod Written
pub mod Reported
