pub mod Changed
pub mod Extending
pub mod Stored
pub mod Terminating
pub mod Drafting
pub mod Committing
