pub mod AsciiPrefix
pub mod Batches
pub mod BatchLaws
