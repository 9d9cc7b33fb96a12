pub mod Picked
pub mod Named
pub mod Demands
pub mod Table
pub mod Networks
