pub mod Digits
pub mod RowByRow
pub mod Groups
pub mod Placing
