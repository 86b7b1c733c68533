pub mod Streams
pub mod Rounds
pub mod Making
