pub mod WrittenRows
pub mod ChecksWithin
pub mod Checks
pub mod DigitRows
pub mod Entries
pub mod Made
