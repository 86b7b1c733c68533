pub mod Gathered
pub mod Feeding
pub mod Parts
pub mod Prefixes
pub mod Stored
