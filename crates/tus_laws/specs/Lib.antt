pub mod Patches
pub mod Cuts
