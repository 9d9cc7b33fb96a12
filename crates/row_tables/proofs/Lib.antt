pub mod RowTable
pub mod Making
