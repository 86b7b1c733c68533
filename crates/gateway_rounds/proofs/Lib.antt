pub mod Passing
pub mod Raising
pub mod Bytes
pub mod Living
