pub mod Faults
pub mod Acts
pub mod Serves
