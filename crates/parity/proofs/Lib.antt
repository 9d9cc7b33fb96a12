pub mod RowsOver
pub mod DigitRows
pub mod Entries
