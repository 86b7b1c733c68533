pub mod Lives
pub mod Splits
mod Numbers
