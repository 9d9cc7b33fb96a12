pub mod Names
pub mod Recipients
pub mod Ledgers
pub mod Apart
pub mod Demands
