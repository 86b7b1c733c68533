pub mod Bounds
pub mod Areas
pub mod Cuts
pub mod Least
pub mod Lines
pub mod Lookups
pub mod Numbers
pub mod Pairs
pub mod Reading
mod Rows
