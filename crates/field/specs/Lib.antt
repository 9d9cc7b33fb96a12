pub mod Numbers
pub mod Field
pub mod Poly
pub mod PointTable
pub mod Verdicts
pub mod Answers
