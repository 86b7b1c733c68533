pub mod Faults
pub mod Reads
pub mod ReadBy
pub mod Refusals
pub mod Loaded
pub mod Recovered
