pub mod Counts
pub mod Given
pub mod Reading
pub mod Traces
pub mod Splits
pub mod Numbers
