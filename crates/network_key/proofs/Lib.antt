pub mod Widths
pub mod Reversed
pub mod Settings
pub mod Parse
pub mod OldFile
pub mod Convert
pub mod Support
pub mod OneForm
