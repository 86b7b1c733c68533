pub mod Told
pub mod Fresh
